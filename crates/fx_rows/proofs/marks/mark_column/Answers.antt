use Rattle.std.proofs.Common.{◌≡◌, ◌≢◌, inl, inr, ap, ℕ, ◌+◌, pos, ◌+ℤ◌, arith}
use Rattle.std.specs.Prelude.{◌==◌}
use Rattle.fx_fixed.proofs.Linear.{signed_linear}
use Rattle.fx_rows.proofs.Marking.{marked}
use Rattle.fx_rows.proofs.marks.mark_column.Goals as goal

pub returns : goal.returns
returns c =
    let r = c.across.result in
    let at : c.args.frame.left +ℤ pos r ≡ c.args.col = omega (arith, signed_linear, c.across.ensures.at) in
    record {
      row = λ k. marked c.args.line.now c.set_bit.new.words c.args.frame.left c.args.col c.args.col r r k c.args.from at at
          (λ h l. let e : k ≡ r = omega arith in rw e c.set_bit.ensures.here)
          (λ o. c.set_bit.ensures.others (c.args.from + k) (elim o [ inl h ↦ omega arith | inr h ↦ omega arith ]));
      under = λ n h.
          let ne : n ≢ c.args.from + c.across.result = omega arith in ap (λ (b : ℕ). b == 1) (c.set_bit.ensures.others n ne);
    }
