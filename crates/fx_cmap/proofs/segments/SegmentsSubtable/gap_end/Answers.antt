use Rattle.std.proofs.Common.{◌<◌, ◌≤◌, sym, ap, ◌∙◌, arith}
use Rattle.fx_cmap.specs.Segments.{glyph_by_segment}
use Rattle.fx_cmap.specs.declared.segment.Segment.{Segment}
use Rattle.fx_cmap.proofs.Searching.{found_on, none_below_segment, none_on}
use Rattle.fx_cmap.proofs.segments.SegmentsSubtable.gap_end.Goals as goal

pub returns-in-Some : goal.returns-in-Some
returns-in-Some c x above below =
    let s = c.in-Some.segment in
    let table = c.args.self.now in
    let low : x < s.start_code = omega (arith, c.from.ensures, c.min.ensures, below) in
    let high : x ≤ s.end_code = omega (arith, c.from.ensures, c.min.ensures, below) in
    ap (glyph_by_segment table.cmap x)
    (found_on (λ (r : Segment). r.end_code) table.segments s c.args.code x (sym c.find.ensures.value ∙ c.in-Some.is) above high)
    ∙ none_below_segment table.cmap s x low

pub returns-in-None : goal.returns-in-None
returns-in-None c x above below =
    let table = c.args.self.now in
    ap (glyph_by_segment table.cmap x)
    (none_on (λ (r : Segment). r.end_code) table.segments c.args.code x (sym c.find.ensures.value ∙ c.in-None.is) above)
