use Rattle.std.proofs.Common.{refl}
use Rattle.fx_trace.specs.Traces.{prep_trace}
use Rattle.fx_trace.proofs.PreludeEnds.{told_by_end}
use Rattle.fx_trace.proofs.prelude.trace_prep.Goals as goal

pub returns : goal.returns
unfolding prep_trace
returns g c =
    rw (c.result_of.ensures) (told_by_end (prep_trace c.args.font.now c.args.ppem) _ _ _ c.run_both-told.result.1 refl
    c.run_both-told.ensures.value c.run_both-told.ensures.traces)
