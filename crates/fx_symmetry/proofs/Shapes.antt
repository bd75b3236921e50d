-- The picture of a moved outline is the moved picture: `moves_picture`, and with drop-out control `moves_near_picture`.
-- Serves the law `pictures`.
use Rattle.std.proofs.Common.{subst, ◌↔◌, List, map}
use Rattle.fx_winding.specs.Winding.{Span, IsCovered, centre}
use Rattle.fx_contour.specs.DropoutFrames.{IsInDropoutFrame}
use Rattle.fx_contour.proofs.Moving.{drawn_moved}
use Rattle.fx_dropout.specs.declared.chooser.Closing.TheVariants.{Nearer}
use Rattle.fx_raster.specs.declared.rule.Rule.TheVariants.{Centres, Bridged}
use Rattle.fx_raster.specs.Rules.{IsPixelSet}
use Rattle.fx_raster.proofs.Moved.{drawn_by}
use Rattle.fx_symmetry.specs.Symmetries.{place_in, span_in, col_in, row_in}
use Rattle.fx_symmetry.specs.Outlines.{point_in, points_in}
use Rattle.fx_symmetry.specs.Shapes.{MovesPicture, MovesNearPicture}
use Rattle.fx_symmetry.proofs.Covering.{moves_bits}
use Rattle.fx_symmetry.proofs.Frames.{moves_dropout_frame}
use Rattle.fx_symmetry.proofs.Near.{near_set_moved}
use Rattle.fx_symmetry.proofs.Outlines.{follows, drawn_closed}

pub moves_picture : MovesPicture
moves_picture m i j ends points shape other h g =
    let d = drawn_by Centres ends points shape h in
    let e = drawn_by Centres ends (points_in m points) other g in
    subst (λ (ts : List Span). IsCovered (centre (col_in m i j) (row_in m i j)) ts ↔ IsCovered (centre i j) shape.spans)
    (drawn_moved (point_in m) (place_in m) (follows m) ends points shape.spans other.spans d e)
    (moves_bits m i j shape.spans (drawn_closed ends points shape.spans d))

pub moves_near_picture : MovesNearPicture
moves_near_picture m i j ends points shape other h g tie middle =
    let d = drawn_by (Bridged Nearer) ends points shape h in
    let e = drawn_by (Bridged Nearer) ends (points_in m points) other g in
    subst (λ (ts : List Span). IsPixelSet (Bridged Nearer) ts (col_in m i j) (row_in m i j)
    ↔ IsPixelSet (Bridged Nearer) shape.spans i j)
    (drawn_moved (point_in m) (place_in m) (follows m) ends points shape.spans other.spans d e)
    (near_set_moved m shape.spans (IsInDropoutFrame shape.spans) (IsInDropoutFrame (map (span_in m) shape.spans))
    (drawn_closed ends points shape.spans d) tie (moves_dropout_frame m shape.spans middle) i j)
