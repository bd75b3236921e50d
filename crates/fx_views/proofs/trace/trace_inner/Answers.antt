use Rattle.fx_views.specs.Traces.{trace_of}
use Rattle.fx_strike.proofs.Exits.{came}
use Rattle.fx_views.proofs.TracesTold.{untold_refusal}
use Rattle.fx_views.proofs.trace.trace_inner.Goals as goal

pub returns-in_err-opened-clause-tells : goal.returns-in_err-opened-clause-tells
unfolding trace_of
returns-in_err-opened-clause-tells g c =
    rw (came c.from_residual.result c.from_residual.ensures.1)
    (rw (← c.in_err-opened.ensures.due) (untold_refusal _ _ _ c.in_err-opened.ensures.named))
