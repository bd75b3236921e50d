use Rattle.fx_trace.proofs.Stopping.{line_stops, none_kept}
use Rattle.fx_trace.proofs.tracer.tell.Goals as goal

pub returns-in-Err-clause-said : goal.returns-in-Err-clause-said
returns-in-Err-clause-said g c =
    line_stops c.args.program c.args.code.now c.args.address c.args.kept.now c.args.state.now c.stop.ensures

pub returns-in-Err-clause-kept : goal.returns-in-Err-clause-kept
returns-in-Err-clause-kept g c = none_kept _ _ _ c.stop.ensures
