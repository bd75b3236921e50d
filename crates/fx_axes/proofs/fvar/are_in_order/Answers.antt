use Rattle.std.proofs.Common.{◌≤◌, sym, ap, ◌∙◌, subst, ℕ}
use Rattle.fx_axes.specs.Fvar.{is_ordered, is_in_order, axis_count}
use Rattle.fx_axes.proofs.Sweeps.{all_on, all_miss, all_end}
use Rattle.fx_axes.proofs.Inside.{along, axis_inside}
use Rattle.fx_axes.proofs.fvar.are_in_order.Goals as goal

pub axis_in-requires-clause-inside : goal.axis_in-requires-clause-inside
axis_in-requires-clause-inside c =
    axis_inside c.args.fvar.now c.axes.k c.requires.records (along _ _ _ c.axes-test.true c.axis_count-count.ensures)

pub returns-then-not-is_in_order : goal.returns-then-not-is_in_order
returns-then-not-is_in_order c =
    all_miss (is_ordered c.args.fvar.now) c.axes.k (axis_count c.args.fvar.now)
    (along _ _ _ c.axes-test.true c.axis_count-count.ensures)
    (sym (c.is_in_order.ensures ∙ ap is_in_order c.axis_in.ensures) ∙ c.if-not-is_in_order.true) c.axes.invariant

pub axes-preserved : goal.axes-preserved
axes-preserved c =
    all_on (is_ordered c.args.fvar.now) c.axes.k (axis_count c.args.fvar.now)
    (along _ _ _ c.axes-test.true c.axis_count-count.ensures)
    (sym (c.is_in_order.ensures ∙ ap is_in_order c.axis_in.ensures) ∙ c.if-not-is_in_order.false) c.axes.invariant

pub returns : goal.returns
returns c =
    let P : ℕ → Type 0 = λ n. n ≤ c.axes.k in
    all_end (is_ordered c.args.fvar.now) c.axes.k (axis_count c.args.fvar.now)
    (subst P c.axis_count-count.ensures c.axes-test.false) c.axes.invariant
