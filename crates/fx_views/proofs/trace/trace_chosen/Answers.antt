use Rattle.fx_strike.proofs.Exits.{came}
use Rattle.fx_views.proofs.TracesTold.{refused_tells, untold_fails, untold_false}
use Rattle.fx_views.proofs.trace.trace_chosen.Goals as goal

pub returns-in_err-machine : goal.returns-in_err-machine
returns-in_err-machine g c =
    rw (came c.from_residual.result c.from_residual.ensures.1) (untold_fails c.args.opened.now c.args.glyph _ _ _ _
    c.in_err-machine.ensures)

pub returns-in-Some : goal.returns-in-Some
returns-in-Some g c =
    rw (c.in_ok-machine.ensures, c.in-Some.is, c.refused_as.ensures) (refused_tells _ _ _ c.trace_glyph.ensures)

pub returns-in-None : goal.returns-in-None
returns-in-None g c = rw (c.in_ok-machine.ensures, c.in-None.is) (untold_false _ _)
