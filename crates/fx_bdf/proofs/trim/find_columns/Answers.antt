use Rattle.std.proofs.Common.{ap, arith}
use Rattle.fx_winding.specs.declared.frame.Frame.{Frame}
use Rattle.fx_winding.specs.Bitmaps.{word_bit}
use Rattle.fx_bdf.specs.declared.lines.LineKind.TheVariants.{Rows}
use Rattle.fx_bdf.specs.Lines.{line_bit}
use Rattle.fx_bdf.proofs.Packing.{seen_more, columns_span}
use Rattle.fx_bdf.proofs.trim.find_columns.Goals as goal

pub rows-preserved : goal.rows-preserved
rows-preserved c =
    let start = c.start_of.ensures in
    let end = c.end_of.ensures in
    rw (c.min-first.ensures, c.max-end.ensures)
    (seen_more (line_bit Rows c.args.bitmap.now) (word_bit c.line-words.result.now) c.rows.i c.rows.first c.rows.end
    c.start_of.result c.end_of.result c.rows.invariant c.line-words.ensures.bits start.before start.set end.after end.set end.few)

pub returns : goal.returns
returns c =
    let high = ap (λ (f : Frame). f.height) c.frame-i-end.ensures.value in
    columns_span c.args.bitmap.now c.rows.i c.rows.first c.rows.end (omega (arith, high)) (omega arith) c.rows.invariant
