use Rattle.std.proofs.Common.{◌<◌, ◌≤◌, length, sym, ap, ◌∙◌, arith}
use Rattle.std.proofs.lemmas.Result.{err_from_is_err_and}
use Rattle.fx_axes.specs.Places.{check_value}
use Rattle.fx_axes.proofs.Filling.{values_on, values_off, values_end}
use Rattle.fx_axes.proofs.places.check_values.Goals as goal

pub returns-in_err-check_value : goal.returns-in_err-check_value
returns-in_err-check_value c =
    let room : c.values.k < length c.args.values.now = omega (arith, c.values-test.true) in
    let p = err_from_is_err_and c.from_residual.result c.from_residual.ensures.1 in
    rw (p.1, p.2) (values_off _ _ _ _ _ room c.numbered-value.ensures c.values.invariant _
    (ap (λ b. check_value c.args.fvar.now b c.numbered-value.result) (sym c.first-before.ensures)
    ∙ sym c.in_err-check_value.ensures))

pub values-preserved : goal.values-preserved
values-preserved c =
    let room : c.values.k < length c.args.values.now = omega (arith, c.values-test.true) in
    values_on _ _ _ _ _ room c.numbered-value.ensures c.values.invariant
    (ap (λ b. check_value c.args.fvar.now b c.numbered-value.result) (sym c.first-before.ensures)
    ∙ sym c.in_ok-check_value.ensures)

pub returns : goal.returns
returns c =
    let past : length c.args.values.now ≤ c.values.k = omega (arith, c.values-test.false) in
    values_end _ _ _ _ past c.values.invariant
