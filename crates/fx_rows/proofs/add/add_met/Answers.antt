use Rattle.std.proofs.Common.{◌≡◌, ◌∙◌, ap, sym, subst, arith, w32, to_z, of_z, ℤ, ℕ, pos, ◌+ℤ◌, ◌+◌, ◌^◌, List, length, get_or}
use Rattle.std.specs.Vec.{with_items}
use Rattle.std.proofs.lemmas.List.{with_items_is}
use Rattle.fx_fixed.proofs.Linear.{signed_linear}
use Rattle.fx_rows.specs.Parts.{IsRowPart}
use Rattle.fx_rows.specs.inner.Sums.{before, AreWithin, AreTouched}
use Rattle.fx_rows.specs.inner.Bands.{bounded_span}
use Rattle.fx_rows.proofs.Counted.{Added, added_part, part_crosses, part_regions}
use Rattle.fx_rows.proofs.Banding.{row_added}
use Rattle.fx_rows.proofs.add.add_met.Goals as goal

pub add_run-requires-clause-inside : goal.add_run-requires-clause-inside
add_run-requires-clause-inside c = part_crosses _ _ _ _ c.met_part-part.ensures.part

pub add_run-requires-2-clause-inside : goal.add_run-requires-2-clause-inside
add_run-requires-2-clause-inside c = part_regions _ _ _ _ c.met_part-part.ensures.part

pub add_run-requires-clause-small : goal.add_run-requires-clause-small
add_run-requires-clause-small c = grind (arith, c.deref_mut.ensures.value, c.requires.small)

pub invariant_of-band : goal.invariant_of-band
invariant_of-band c =
    let b = c.args.band.now in
    let d = ap length (with_items_is (with_items b.diff c.add_run.new.diff) c.add_run-2.new.diff (omega arith)) in
    let t = ap length (with_items_is (with_items b.touched c.add_run.new.touched) c.add_run-2.new.touched (omega arith)) in
    let m = ap length (with_items_is b.marks c.mark.new.line (omega arith)) in
    let e = ap length c.deref_mut-5.ensures.value in
    record { few = b.few; room = omega (arith, m, e); words = omega (arith, t, m, e); cells = omega (arith, d, m, e) }

pub add_run-requires-2-clause-small : goal.add_run-requires-2-clause-small
add_run-requires-2-clause-small c =
    let d = c.deref_mut-3.ensures.value ∙ with_items_is c.args.band.now.diff c.add_run.new.diff (omega arith) in
    λ k. let e = c.add_run.ensures.raised.grown (2 ^ 26)
    (subst (AreWithin (2 ^ 26)) (sym c.deref_mut.ensures.value) c.requires.small) k in
    let x = ap (λ (xs : List ℤ). get_or xs k (pos 0)) d in
    omega (arith, signed_linear, e, x)

pub returns-clause-part : goal.returns-clause-part
returns-clause-part c =
    let f = c.args.band.now.frame in
    let near = c.row_of.ensures.near in
    let row : to_z w32 (of_z w32 c.row_of.result) ≡ f.bottom +ℤ pos c.args.up =
    (omega (arith, signed_linear, near)) ∙ c.row_of.ensures.value in
    subst (λ (r : ℤ). IsRowPart (bounded_span c.args.bounded.now) r f c.met_part-part.result) row c.met_part-part.ensures.part

pub returns-clause-added : goal.returns-clause-added
returns-clause-added c =
    let b = c.args.band.now in
    let f = b.frame in
    let s = bounded_span c.args.bounded.now in
    let part = c.met_part-part.result in
    let at = c.first_of-first.result in
    let d = c.deref_mut.result.now in
    let t = c.deref_mut-2.result.now in
    let m = c.deref_mut-5.result.now in
    let d' = c.add_run-2.new.diff in
    let t' = c.add_run-2.new.touched in
    let m' = c.mark.new.line in
    let mid = with_items b.diff c.add_run.new.diff in
    let mid' = with_items b.touched c.add_run.new.touched in
    let ed : c.deref_mut-3.result.now ≡ c.add_run.new.diff =
    c.deref_mut-3.ensures.value ∙ with_items_is b.diff c.add_run.new.diff (omega arith) in
    let et : c.deref_mut-4.result.now ≡ c.add_run.new.touched =
    c.deref_mut-4.ensures.value ∙ with_items_is b.touched c.add_run.new.touched (omega arith) in
    let added = added_part s (f.bottom +ℤ pos c.args.up) f part at d d' t t' m m' (returns-clause-part c)
    (λ k. let a = c.add_run.ensures.raised.sums k in let z = c.add_run-2.ensures.raised.sums k in
    let x = ap (before (at + k + 1)) ed in omega (arith, signed_linear, a, z, x))
    (λ n h. c.add_run-2.ensures.raised.under n h ∙ ap (before n) ed ∙ c.add_run.ensures.raised.under n h)
    (λ n w k. let e = c.add_run-2.ensures.raised.grown (n + 2) (subst (AreWithin (n + 2)) (sym ed)
    (c.add_run.ensures.raised.grown n w)) k in omega (arith, signed_linear, e))
    (λ a. c.add_run-2.ensures.touched (subst (λ z. z) (λ i. AreTouched (sym ed i) (sym et i)) (c.add_run.ensures.touched a)))
    c.mark.ensures in
    row_added s f (f.bottom +ℤ pos c.args.up) _ b _ d d' t t' m m'
    c.deref_mut.ensures.value (sym (with_items_is mid d' (omega arith)))
    c.deref_mut-2.ensures.value (sym (with_items_is mid' t' (omega arith)))
    c.deref_mut-5.ensures.value (sym (with_items_is b.marks m' (omega arith)))
    (subst (λ (n : ℕ). Added s f (f.bottom +ℤ pos c.args.up) n d d' t t' m m') c.first_of-first.ensures.value added)
