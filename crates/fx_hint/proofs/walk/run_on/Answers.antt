use Rattle.std.proofs.Common.{ap}
use Rattle.std.proofs.lemmas.Result.{err_from_is_err_and}
use Rattle.fx_hint.specs.declared.count.Count.{Count}
use Rattle.fx_hint.proofs.walk.run_on.Goals as goal

pub returns-in_err-usage-clause-leads : goal.returns-in_err-usage-clause-leads
returns-in_err-usage-clause-leads g c =
    let p = err_from_is_err_and c.from_residual.result c.from_residual.ensures.1 in
    rw (p.1, p.2) c.in_err-usage.ensures.leads

pub returns-clause-leads : goal.returns-clause-leads
returns-clause-leads g c = c.in_ok-usage.ensures.leads

pub returns-clause-points : goal.returns-clause-points
returns-clause-points g c = (
  (c.law_keeps_shape.ensures _ _ _ _ c.in_ok-usage.ensures.value).0,
  ap (λ (k : Count). k.points) c.more_usage.ensures,
)
