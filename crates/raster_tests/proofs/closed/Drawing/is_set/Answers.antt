use Rattle.std.proofs.Common.{inl, inr, refl, map, ℤ, arith}
use Rattle.fx_fixed.proofs.Linear.{signed_linear}
use Rattle.fx_dropout.specs.declared.chooser.Closing.TheVariants.{Lower}
use Rattle.fx_dropout.specs.Dropout.{IsGap, IsRowSet}
use Rattle.fx_winding.specs.Turned.{turned_span}
use Rattle.fx_winding.specs.Frames.{IsInFrame}
use Rattle.fx_winding.specs.Winding.{span_of}
use Rattle.fx_winding.proofs.Places.{no}
use Rattle.raster_tests.proofs.Bridged.{outside, closed_before, closes_before, moved, none}
use Rattle.raster_tests.proofs.closed.Drawing.is_set.Goals as goal

pub returns-then-is_row_set : goal.returns-then-is_row_set
returns-then-is_row_set c = (λ t. inl (c.is_row_set.ensures.0 c.if-is_row_set.true), λ b. refl)

pub below-before-requires : goal.below-before-requires
below-before-requires c =
    let inside = c.is_inside.ensures.0 c.if-not-is_inside.false in
    let low = c.args.self.now.margin.bottom in
    (omega (arith, signed_linear, inside.row.0, low.0), omega (arith, signed_linear))

pub returns-then-not-is_inside : goal.returns-then-not-is_inside
returns-then-not-is_inside c =
    let ss = map span_of c.args.self.now.pieces.now in
    no (outside (map turned_span ss) (λ (j i : ℤ). IsInFrame c.args.self.now.frame i j) _ c.args.pixel.row c.args.pixel.col
    (none c.is_row_set.result c.if-is_row_set.false c.is_row_set.ensures)
    (none c.is_inside.result c.if-not-is_inside.true c.is_inside.ensures))

pub returns-then-is_column_gap : goal.returns-then-is_column_gap
returns-then-is_column_gap c = (
  λ t. inr (record {
    inside = c.is_inside.ensures.0 c.if-not-is_inside.false;
    closes = inl (record { gap = c.is_column_gap.ensures.0 c.if-is_column_gap.true; chosen = inl (λ e. e) });
  }),
  λ b. refl,
)

pub returns-then-is_inside : goal.returns-then-is_inside
returns-then-is_inside c =
    let ss = map span_of c.args.self.now.pieces.now in
    let f = c.args.self.now.frame in
    let low = moved (IsInFrame f) c.is_inside-2.result c.below-before.ensures.col c.below-before.ensures.row
    c.is_inside-2.ensures in
    no (closed_before (map turned_span ss) (λ (j i : ℤ). IsInFrame f i j) (λ (j i : ℤ). IsRowSet Lower ss f i j) c.args.pixel.row
    c.args.pixel.col (none c.is_row_set.result c.if-is_row_set.false c.is_row_set.ensures)
    (none c.is_column_gap.result c.if-is_column_gap.false c.is_column_gap.ensures) (low.0 c.if-is_inside.true))

pub returns : goal.returns
returns c =
    let ss = map span_of c.args.self.now.pieces.now in
    let f = c.args.self.now.frame in
    let low = moved (IsInFrame f) c.is_inside-2.result c.below-before.ensures.col c.below-before.ensures.row
    c.is_inside-2.ensures in
    let gap = moved (λ (i j : ℤ). IsGap (map turned_span ss) (λ (j i : ℤ). IsRowSet Lower ss f i j) j i) c.is_column_gap-2.result
    c.below-before.ensures.col c.below-before.ensures.row c.is_column_gap-2.ensures in
    closes_before (map turned_span ss) (λ (j i : ℤ). IsInFrame f i j) (λ (j i : ℤ). IsRowSet Lower ss f i j) c.args.pixel.row
    c.args.pixel.col c.is_column_gap-2.result (none c.is_row_set.result c.if-is_row_set.false c.is_row_set.ensures)
    (c.is_inside.ensures.0 c.if-not-is_inside.false)
    (none c.is_column_gap.result c.if-is_column_gap.false c.is_column_gap.ensures)
    (none c.is_inside-2.result c.if-is_inside.false low) gap
