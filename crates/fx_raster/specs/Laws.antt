-- What the definitions of shapes imply.
use Rattle.std.specs.Prelude.{◌≡◌, ◌↔◌, IsTrue, ℕ, ℤ, pos, ◌+ℤ◌, ◌<ℤ◌, Bool, List, map, length, Ok, Any}
use Rattle.fx_winding.specs.Winding.{Span, centre}
use Rattle.fx_winding.specs.Meets.{IsMet}
use Rattle.fx_winding.specs.Turned.{turned_span}
use Rattle.fx_winding.specs.Limits.{IsPixelNumber, greatest_side}
use Rattle.fx_outline.specs.declared.points.OutlinePoint.{OutlinePoint}
use Rattle.fx_outline.specs.Ends.{AreEnds}
use Rattle.fx_contour.specs.Moves.{shifted_points, reversed_points}
use Rattle.fx_dropout.specs.declared.chooser.Closing.{Closing}
use Rattle.fx_raster.specs.declared.rule.Rule.{Rule}
use Rattle.fx_raster.specs.declared.rule.Rule.TheVariants.{Centres, Bridged}
use Rattle.fx_raster.specs.Rules.{ShapeView, IsPixelSet, shape_of}

-- the shape is that of some outline
abbrev pub IsOfOutline : ShapeView → Type 0
IsOfOutline shape = (rule : Rule) × (ends : List ℕ) × (points : List OutlinePoint) × (shape_of rule ends points ≡ Ok shape)

-- these bits of all pixels of the plane are those that the shape sets
abbrev pub AreBitsOf : ShapeView → (ℤ → ℤ → Bool) → Type 0
AreBitsOf shape bit = (col row : ℤ) → IsTrue (bit col row) ↔ IsPixelSet shape.rule shape.spans col row

-- and they lie within the limits of columns and rows, less than the greatest side of a frame apart
pub record IsPicture (shape : ShapeView) (bit : ℤ → ℤ → Bool) : Type 0 where
  pub bits : AreBitsOf shape bit
  pub columns : (col row : ℤ) → IsTrue (bit col row) → IsPixelNumber col
  pub rows : (col row : ℤ) → IsTrue (bit col row) → IsPixelNumber row
  pub narrow : (col row col2 row2 : ℤ) → IsTrue (bit col row) → IsTrue (bit col2 row2) → col2 <ℤ (col +ℤ pos greatest_side)
  pub low : (col row col2 row2 : ℤ) → IsTrue (bit col row) → IsTrue (bit col2 row2) → row2 <ℤ (row +ℤ pos greatest_side)

-- the law: the shape of an outline has a picture
abbrev pub PictureExists : Type 0
PictureExists = (shape : ShapeView) → IsOfOutline shape → (bit : ℤ → ℤ → Bool) × IsPicture shape bit

-- the law: and only one
abbrev pub PictureIsOne : Type 0
PictureIsOne = (shape : ShapeView) (bit other : ℤ → ℤ → Bool) → AreBitsOf shape bit → AreBitsOf shape other
    → (col row : ℤ) → bit col row ≡ other col row

-- the law: without drop-out control, if an outline and the one moved by k pixels to the right and l up both have shapes, the moved
-- one sets the moved pixels
abbrev pub ShiftMovesPicture : Type 0
ShiftMovesPicture = (k l i j : ℤ) (ends : List ℕ) (points : List OutlinePoint) (shape moved : ShapeView)
    → shape_of Centres ends points ≡ Ok shape → shape_of Centres ends (shifted_points k l points) ≡ Ok moved
    → IsPixelSet Centres moved.spans (i +ℤ k) (j +ℤ l) ↔ IsPixelSet Centres shape.spans i j

-- the law: without drop-out control, if an outline and the one whose contours are reversed both have shapes, they set the same
-- pixels
abbrev pub ReversalKeepsPicture : Type 0
ReversalKeepsPicture = (i j : ℤ) (ends : List ℕ) (points : List OutlinePoint) (shape other : ShapeView)
    → AreEnds 0 ends (length points) → shape_of Centres ends points ≡ Ok shape
    → shape_of Centres ends (reversed_points ends points) ≡ Ok other
    → IsPixelSet Centres other.spans i j ↔ IsPixelSet Centres shape.spans i j

-- the law: with drop-out control no piece passes between the centres of two neighbours in a row, neither of which is set
abbrev pub NoGapInRow : Type 0
NoGapInRow = (closing : Closing) (ss : List Span) (i j : ℤ) → ¬ (IsPixelSet (Bridged closing) ss i j)
    → ¬ (IsPixelSet (Bridged closing) ss (i +ℤ pos 1) j)
    → ¬ (Any (IsMet (centre i j) (centre (i +ℤ pos 1) j)) ss)

-- the law: nor of two in a column
abbrev pub NoGapInColumn : Type 0
NoGapInColumn = (closing : Closing) (ss : List Span) (i j : ℤ) → ¬ (IsPixelSet (Bridged closing) ss i j)
    → ¬ (IsPixelSet (Bridged closing) ss i (j +ℤ pos 1))
    → ¬ (Any (IsMet (centre j i) (centre (j +ℤ pos 1) i)) (map turned_span ss))
