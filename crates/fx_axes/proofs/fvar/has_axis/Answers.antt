use Rattle.std.proofs.Common.{◌≤◌, sym, ap, ◌∙◌, subst, ℕ}
use Rattle.std.proofs.lemmas.Bool.{eq-eqb, ne_eqb}
use Rattle.fx_axes.specs.Fvar.{has_tag, axis_count}
use Rattle.fx_axes.proofs.Sweeps.{any_on, any_hit, any_end}
use Rattle.fx_axes.proofs.Inside.{along, axis_inside}
use Rattle.fx_axes.proofs.fvar.has_axis.Goals as goal

pub axis_in-requires-clause-inside : goal.axis_in-requires-clause-inside
axis_in-requires-clause-inside c =
    axis_inside c.args.fvar.now c.axes.k c.requires.records (along _ _ _ c.axes-test.true c.axis_count-count.ensures)

pub returns-then-axis_in-tag : goal.returns-then-axis_in-tag
returns-then-axis_in-tag c =
    any_hit (has_tag c.args.fvar.now c.args.tag) c.axes.k (axis_count c.args.fvar.now)
    (along _ _ _ c.axes-test.true c.axis_count-count.ensures)
    (eq-eqb _ _ (sym (ap (λ a. a.tag) c.axis_in.ensures) ∙ c.if-axis_in-tag.true)) c.axes.invariant

pub axes-preserved : goal.axes-preserved
axes-preserved c =
    any_on (has_tag c.args.fvar.now c.args.tag) c.axes.k (axis_count c.args.fvar.now)
    (along _ _ _ c.axes-test.true c.axis_count-count.ensures)
    (ne_eqb _ _ (λ e. c.if-axis_in-tag.false (ap (λ a. a.tag) c.axis_in.ensures ∙ e))) c.axes.invariant

pub returns : goal.returns
returns c =
    let P : ℕ → Type 0 = λ n. n ≤ c.axes.k in
    any_end (has_tag c.args.fvar.now c.args.tag) c.axes.k (axis_count c.args.fvar.now)
    (subst P c.axis_count-count.ensures c.axes-test.false) c.axes.invariant
