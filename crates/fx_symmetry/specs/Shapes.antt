-- The pictures of moved outlines.
use Rattle.std.specs.Prelude.{◌≡◌, ◌↔◌, ℕ, ℤ, List, Ok}
use Rattle.fx_outline.specs.declared.points.OutlinePoint.{OutlinePoint}
use Rattle.fx_contour.specs.DropoutFrames.{IsInDropoutFrame}
use Rattle.fx_dropout.specs.declared.chooser.Closing.TheVariants.{Nearer}
use Rattle.fx_raster.specs.declared.rule.Rule.TheVariants.{Centres, Bridged}
use Rattle.fx_raster.specs.Rules.{ShapeView, IsPixelSet, shape_of}
use Rattle.fx_symmetry.specs.Dropout.{HasNoTieIn}
use Rattle.fx_symmetry.specs.Outlines.{HasMiddleIn, points_in}
use Rattle.fx_symmetry.specs.Symmetries.{Symmetry, col_in, row_in}

-- the law: without drop-out control, if an outline and the moved one both have shapes, the moved one sets the moved pixels
abbrev pub MovesPicture : Type 0
MovesPicture = (m : Symmetry) (i j : ℤ) (ends : List ℕ) (points : List OutlinePoint) (shape other : ShapeView)
    → shape_of Centres ends points ≡ Ok shape → shape_of Centres ends (points_in m points) ≡ Ok other
    → IsPixelSet Centres other.spans (col_in m i j) (row_in m i j) ↔ IsPixelSet Centres shape.spans i j

-- the law: so with drop-out control by the nearer pixel, mirrored or upside down, if no stroke that would be lost is as near to one
-- pixel as to the other, and the outline does not lie just between two columns, or rows
abbrev pub MovesNearPicture : Type 0
MovesNearPicture = (m : Symmetry) (i j : ℤ) (ends : List ℕ) (points : List OutlinePoint) (shape other : ShapeView)
    → shape_of (Bridged Nearer) ends points ≡ Ok shape → shape_of (Bridged Nearer) ends (points_in m points) ≡ Ok other
    → HasNoTieIn m shape.spans (IsInDropoutFrame shape.spans) → HasMiddleIn m shape.spans
    → IsPixelSet (Bridged Nearer) other.spans (col_in m i j) (row_in m i j) ↔ IsPixelSet (Bridged Nearer) shape.spans i j
