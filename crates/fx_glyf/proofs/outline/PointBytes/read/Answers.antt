use Rattle.fx_glyf.proofs.Outlines.{no_flags, no_xs, no_ys, all_there}
use Rattle.fx_glyf.proofs.Sizes.{not_measured, is_measured, x_deltas, no_x_deltas, y_deltas, no_y_deltas, is_there}
use Rattle.fx_glyf.proofs.outline.PointBytes.read.Goals as goal

pub returns-in_default : goal.returns-in_default
returns-in_default c = no_flags _ _ (not_measured _ c.in_default.ensures)

pub returns-then-xs-measure : goal.returns-then-xs-measure
returns-then-xs-measure c =
    let m = is_measured _ _ _ _ c.in-Some.ensures in
    no_xs _ _ _ m.after (no_x_deltas _ _ _ _ m c.if-xs-measure.true)

pub returns-then-ys-measure : goal.returns-then-ys-measure
returns-then-ys-measure c =
    let m = is_measured _ _ _ _ c.in-Some.ensures in
    no_ys _ _ _ _ m.after (x_deltas _ _ _ _ _ m c.if-xs-measure.false c.after-ys.ensures)
    (no_y_deltas _ _ _ _ _ m c.if-ys-measure.true)

pub invariant_of-result : goal.invariant_of-result
invariant_of-result c =
    let m = is_measured _ _ _ _ c.in-Some.ensures in (
      is_there _ _ m.after,
      is_there _ _ (x_deltas _ _ _ _ _ m c.if-xs-measure.false c.after-ys.ensures),
      is_there _ _ (y_deltas _ _ _ _ _ m c.if-ys-measure.false),
    )

pub returns : goal.returns
returns c =
    let m = is_measured _ _ _ _ c.in-Some.ensures in
    all_there _ _ _ _ _ m.after (x_deltas _ _ _ _ _ m c.if-xs-measure.false c.after-ys.ensures)
    (y_deltas _ _ _ _ _ m c.if-ys-measure.false)
