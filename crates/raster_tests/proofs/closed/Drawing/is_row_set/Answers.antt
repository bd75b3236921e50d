use Rattle.std.proofs.Common.{inl, inr, refl, map}
use Rattle.fx_dropout.specs.Dropout.{IsGap}
use Rattle.fx_winding.specs.Frames.{IsInFrame}
use Rattle.fx_winding.specs.Winding.{span_of, centre, IsCovered}
use Rattle.fx_winding.proofs.Places.{no}
use Rattle.raster_tests.proofs.Bridged.{outside, closed_before, closes_before, moved, none}
use Rattle.raster_tests.proofs.closed.Drawing.is_row_set.Goals as goal

pub returns-then-not-is_inside : goal.returns-then-not-is_inside
returns-then-not-is_inside c =
    no (outside (map span_of c.args.self.now.pieces.now) (IsInFrame c.args.self.now.frame) _ c.args.pixel.col c.args.pixel.row
    (none c.is_covered.result c.if-is_covered.false c.is_covered.ensures)
    (none c.is_inside.result c.if-not-is_inside.true c.is_inside.ensures))

pub returns-then-is_row_gap : goal.returns-then-is_row_gap
returns-then-is_row_gap c = (
  λ t. inr (record {
    inside = c.is_inside.ensures.0 c.if-not-is_inside.false;
    closes = inl (record { gap = c.is_row_gap.ensures.0 c.if-is_row_gap.true; chosen = inl (λ e. e) });
  }),
  λ b. refl,
)

pub returns-then-is_inside : goal.returns-then-is_inside
returns-then-is_inside c =
    let left = moved (IsInFrame c.args.self.now.frame) c.is_inside-2.result c.left-before.ensures.col c.left-before.ensures.row
    c.is_inside-2.ensures in
    no (closed_before (map span_of c.args.self.now.pieces.now) (IsInFrame c.args.self.now.frame) _ c.args.pixel.col
    c.args.pixel.row (none c.is_covered.result c.if-is_covered.false c.is_covered.ensures)
    (none c.is_row_gap.result c.if-is_row_gap.false c.is_row_gap.ensures) (left.0 c.if-is_inside.true))

pub returns : goal.returns
returns c =
    let ss = map span_of c.args.self.now.pieces.now in
    let left = moved (IsInFrame c.args.self.now.frame) c.is_inside-2.result c.left-before.ensures.col c.left-before.ensures.row
    c.is_inside-2.ensures in
    let gap = moved (IsGap ss (λ i j. IsCovered (centre i j) ss)) c.is_row_gap-2.result c.left-before.ensures.col
    c.left-before.ensures.row c.is_row_gap-2.ensures in
    closes_before ss (IsInFrame c.args.self.now.frame) (λ i j. IsCovered (centre i j) ss) c.args.pixel.col c.args.pixel.row
    c.is_row_gap-2.result (none c.is_covered.result c.if-is_covered.false c.is_covered.ensures)
    (c.is_inside.ensures.0 c.if-not-is_inside.false)
    (none c.is_row_gap.result c.if-is_row_gap.false c.is_row_gap.ensures)
    (none c.is_inside-2.result c.if-is_inside.false left) gap
