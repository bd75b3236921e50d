use Rattle.std.proofs.Common.{◌≡◌, ℕ, ◌+◌, ◌-◌, ◌≤◌, ◌<◌, suc, List, length, length-drop, sym, ap, ◌∙◌, arith, subst}
use Rattle.byteorder.specs.Endian.{big_number}
use Rattle.fx_sfnt.specs.Fields.{field}
use Rattle.fx_glyf.specs.Words.{words, count_from}
use Rattle.fx_glyf.proofs.EndPoints.{ends_fall, ends_more, ends_none}
use Rattle.fx_glyf.proofs.ends.count_points.Goals as goal

pub returns-then-end-count : goal.returns-then-end-count
unfolding field
returns-then-end-count c =
    let more : c.args.contours - c.ends._k ≡ suc (c.args.contours - (c.ends._k + 1)) = omega arith in
    let P : ℕ → Type 0 = λ n. n + 1 < c.ends.count in
    sym (ends_fall _ _ _ _ more (subst P (c.from-end.ensures ∙ c.u16_in.ensures) c.if-end-count.true)) ∙ c.ends.invariant.same

pub ends-preserved : goal.ends-preserved
unfolding field
ends-preserved c =
    let more : c.args.contours - c.ends._k ≡ suc (c.args.contours - (c.ends._k + 1)) = omega arith in
    let P : ℕ → Type 0 = λ n. c.ends.count ≤ n + 1 in
    let end = c.from-end.ensures ∙ c.u16_in.ensures in
    record {
      same = ap (λ (n : ℕ). count_from (n + 1) (words (c.args.contours - (c.ends._k + 1)) c.after-rest.result.now)) end
          ∙ ap (λ (bytes : List ℕ). count_from (big_number 2 c.ends.rest.now + 1) (words (c.args.contours - (c.ends._k + 1)) bytes))
          c.after-rest.ensures
          ∙ sym (ends_more _ _ _ _ more (subst P end c.if-end-count.false)) ∙ c.ends.invariant.same;
      inside = omega (arith, ap length c.after-rest.ensures, length-drop 2 c.ends.rest.now);
    }

pub returns : goal.returns
returns c = sym (ends_none _ _ _ (omega arith)) ∙ c.ends.invariant.same
