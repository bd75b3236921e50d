use Rattle.std.proofs.Common.{rules}
use Rattle.fx_trace.proofs.Programs.{same_sink, glyph_traced, moved_to}
use Rattle.fx_trace.proofs.glyph.trace_glyph.Goals as goal

pub returns : goal.returns
returns g c =
    let w = c.outline_watched-tracer.ensures in
    let s =
    same_sink (λ t. t.wanted) (λ t. t.text) (λ t. t.before) _ _ _ c.new-tracer.result _ _ _
    c.new-tracer.ensures.text c.new-tracer.ensures.before c.end-told.ensures.said
    c.end-told.ensures.outcome c.end-told.ensures.whole _ _
    c.new-tracer.ensures.wanted w.ran.3 in
    let r =
    glyph_traced (λ t. t.wanted) (λ t. t.text) (λ t. t.before) _ _ _ c.new-tracer.result _ _ _
    c.new-tracer.ensures.text c.new-tracer.ensures.before c.end-told.ensures.said
    c.end-told.ensures.outcome c.end-told.ensures.whole c.args.machine.known
    c.args.font.now c.args.ppem c.args.g c.new-tracer.ensures.wanted _ w.ran w.value in
    rw (c.result_of.ensures) (moved_to _ _ _ _ r (search rules) (search rules))
