use Rattle.fx_trace.proofs.Stopping.{begin_stops, none_kept}
use Rattle.fx_trace.proofs.tracer.begin_text.Goals as goal

pub returns-in-Err-clause-said : goal.returns-in-Err-clause-said
returns-in-Err-clause-said g c = begin_stops c.args.component c.args.program c.stop.ensures

pub returns-in-Err-clause-kept : goal.returns-in-Err-clause-kept
returns-in-Err-clause-kept g c = none_kept _ _ _ c.stop.ensures
