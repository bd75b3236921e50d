use Rattle.std.proofs.Common.{rules, refl, None}
use Rattle.fx_hint.proofs.Watching.{seen_for}
use Rattle.fx_trace.proofs.PreludeEnds.{machine_given}
use Rattle.fx_trace.proofs.Programs.{same_sink, prelude_traced, moved_to}
use Rattle.fx_trace.specs.inner.Telling.{Sees}
use Rattle.fx_trace.proofs.prelude.run_told.Goals as goal

pub returns-clause-traces : goal.returns-clause-traces
returns-clause-traces g c =
    let seen =
    seen_for (Sees (λ t. t.wanted) (λ t. t.text) (λ t. t.before)) (λ w. w.watcher) (λ w. w.component) None _ _ _
    refl c.new-made.ensures.watched in
    let s =
    same_sink (λ t. t.wanted) (λ t. t.text) (λ t. t.before) _ _ _ c.new-tracer.result _ _ _
    c.new-tracer.ensures.text c.new-tracer.ensures.before c.end-told.ensures.said
    c.end-told.ensures.outcome c.end-told.ensures.whole _ _
    c.new-tracer.ensures.wanted seen in
    let r =
    prelude_traced (λ t. t.wanted) (λ t. t.text) (λ t. t.before) _ _ _ c.new-tracer.result _ _ _
    c.new-tracer.ensures.text c.new-tracer.ensures.before c.end-told.ensures.said
    c.end-told.ensures.outcome c.end-told.ensures.whole _ _ _
    c.new-tracer.ensures.wanted c.new-made.result seen in
    rw (c.machine_end.ensures, ← c.shared.ensures) (moved_to _ _ _ _ r (search rules) (search rules))

pub returns-clause-value : goal.returns-clause-value
returns-clause-value g c =
    rw (c.machine_end.ensures, ← c.shared.ensures) (machine_given (λ m. m.known) _ _ (c.new-made.ensures.value refl))
