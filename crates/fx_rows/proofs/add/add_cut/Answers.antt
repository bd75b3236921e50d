use Rattle.std.proofs.Common.{sym, subst, arith, ℕ}
use Rattle.std.proofs.lemmas.List.{with_items_is}
use Rattle.fx_rows.specs.inner.Bands.{bounded_span}
use Rattle.fx_rows.proofs.Counted.{Added, added_cut}
use Rattle.fx_rows.proofs.Banding.{row_added}
use Rattle.fx_rows.proofs.Counting.{rise_told}
use Rattle.fx_rows.proofs.Stepping.{cut_inside, rise_value}
use Rattle.fx_rows.proofs.add.add_cut.Goals as goal

pub add_before-requires-clause-small : goal.add_before-requires-clause-small
add_before-requires-clause-small c = grind (arith, c.deref_mut.ensures.value, c.requires.small)

pub invariant_of-band : goal.invariant_of-band
invariant_of-band c = grind (arith, c.deref_mut-3.ensures.value, with_items_is)

pub returns-clause-added : goal.returns-clause-added
returns-clause-added c =
    let s = bounded_span c.args.bounded.now in
    let b = c.args.band.now in
    let cut = c.args.cut in
    let at = c.first_of-first.result in
    let rise = rise_told _ _ _ _ c.args.bounded.now.rises in
    let added = added_cut s c.args.strip b.frame cut _ at c.deref_mut.result.now
    c.add_before.new.diff c.deref_mut-2.result.now c.add_before.new.touched c.deref_mut-3.result.now c.mark.new.line
    c.requires.strip (rise_value c.args.bounded.now _ rise) c.add_before.ensures.raised
    c.add_before.ensures.touched c.mark.ensures c.requires.cut in
    row_added s b.frame c.args.strip.row _ b _ c.deref_mut.result.now c.add_before.new.diff
    c.deref_mut-2.result.now c.add_before.new.touched c.deref_mut-3.result.now c.mark.new.line
    c.deref_mut.ensures.value (sym (with_items_is b.diff c.add_before.new.diff (omega arith)))
    c.deref_mut-2.ensures.value (sym (with_items_is b.touched c.add_before.new.touched (omega arith)))
    c.deref_mut-3.ensures.value (sym (with_items_is b.marks c.mark.new.line (omega arith)))
    (subst (λ (n : ℕ). Added s b.frame c.args.strip.row n c.deref_mut.result.now c.add_before.new.diff
    c.deref_mut-2.result.now c.add_before.new.touched c.deref_mut-3.result.now c.mark.new.line)
    c.first_of-first.ensures.value added)

pub mark-requires-clause-inside : goal.mark-requires-clause-inside
mark-requires-clause-inside c = cut_inside (bounded_span c.args.bounded.now) c.args.strip c.args.band.now.frame c.args.cut
    c.requires.strip c.requires.cut
