use Rattle.std.proofs.Common.{None}
use Rattle.fx_scale.specs.Scaling.{scale_of}
use Rattle.fx_hint.specs.Programmed.{hinting_of}
use Rattle.fx_hint.specs.Outlines.{view_of_glyph_outline}
use Rattle.fx_hint.specs.Runs.{runs_of}
use Rattle.fx_hint.specs.Watched.{WatchesRuns}
use Rattle.fx_hint.specs.declared.programmed.WatchedMachine.{WatchedMachine}
use Rattle.fx_trace.specs.declared.tracer.Tracer.{Tracer}
use Rattle.fx_trace.specs.inner.Telling.{Sees}
use Rattle.fx_trace.proofs.Programs.{seen_runs, ran_so, ends_so}
use Rattle.fx_trace.proofs.glyph.outline_watched.Goals as goal

pub returns-clause-ran : goal.returns-clause-ran
returns-clause-ran g c =
    let q = seen_runs {S = WatchedMachine (Tracer g.row.S.Denot)}
    (λ a runs b. WatchesRuns (Sees (λ t. t.wanted) (λ t. t.text) (λ t. t.before)) a.machine.known
    a.watcher.watcher runs b.machine.known b.watcher.watcher)
    (record { machine = c.args.machine; watcher = record { watcher = c.args.watcher; component = None } })
    c.outline_with-made.new.hinter c.outline_with-made.result
    (runs_of (hinting_of c.args.machine.known) c.args.font.now (scale_of c.args.font.now c.args.ppem) c.args.g)
    c.outline_with-made.ensures.leads in
    ran_so _ _ _ _ c.outline_with-made.result _ _ q.0 q.1 c.end_of.ensures q.2 q.3.1 q.4

pub returns-clause-value : goal.returns-clause-value
returns-clause-value g c =
    ends_so view_of_glyph_outline c.outline_with-made.result _ _ c.end_of.ensures c.outline_with-made.ensures.value
