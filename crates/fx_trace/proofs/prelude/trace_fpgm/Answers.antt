use Rattle.std.proofs.Common.{refl}
use Rattle.fx_trace.specs.Traces.{fpgm_trace}
use Rattle.fx_trace.specs.inner.Ending.{fpgm_end}
use Rattle.fx_trace.proofs.PreludeEnds.{fpgm_ended, fpgm_given, told_by_end}
use Rattle.fx_trace.proofs.prelude.trace_fpgm.Goals as goal

pub returns : goal.returns
unfolding fpgm_trace
returns g c =
    let end = c.run_both-told.result.1 in
    rw (c.result_of.ensures, c.fpgm_end.ensures) (told_by_end (fpgm_trace c.args.font.now c.args.ppem) _ _ _ (fpgm_end end) refl
    (fpgm_given c.args.font.now c.args.ppem end c.run_both-told.ensures.value)
    (fpgm_ended _ _ _ end c.run_both-told.ensures.traces))
