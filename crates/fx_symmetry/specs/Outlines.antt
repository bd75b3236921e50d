-- What a symmetry does to outlines: to their pieces, to their bits and to the frame with drop-out control.
use Rattle.std.specs.Prelude.{◌≡◌, ◌≢◌, ◌↔◌, ℤ, pos, ◌+ℤ◌, ◌*ℤ◌, neg_ℤ, ℕ, List, [], ◌∷◌, map, Ok}
use Rattle.fx_winding.specs.Area.{Place}
use Rattle.fx_winding.specs.Winding.{Span, IsCovered, centre}
use Rattle.fx_outline.specs.declared.points.OutlinePoint.{OutlinePoint}
use Rattle.fx_contour.specs.Contours.{spans_of, drawn_of}
use Rattle.fx_contour.specs.DropoutFrames.{x_of, y_of, least, greatest, IsInDropoutFrame}
use Rattle.fx_contour.specs.Frames.{AreNoPixels}
use Rattle.fx_symmetry.specs.Symmetries.{Symmetry, Mirror, Flip, Exchange, span_in, col_in, row_in}

-- where a symmetry moves a point
abbrev pub point_in : Symmetry → OutlinePoint → OutlinePoint
point_in Mirror p = record { x = neg_ℤ p.x; y = p.y; on_curve = p.on_curve }
point_in Flip p = record { x = p.x; y = neg_ℤ p.y; on_curve = p.on_curve }
point_in Exchange p = record { x = p.y; y = p.x; on_curve = p.on_curve }

-- the points of a moved outline
abbrev pub points_in : Symmetry → List OutlinePoint → List OutlinePoint
points_in m = map (point_in m)

-- the law: the pieces of a moved outline are its pieces, moved
abbrev pub MovesSpans : Type 0
MovesSpans = (m : Symmetry) (ends : List ℕ) (points : List OutlinePoint)
    → spans_of ends (points_in m points) ≡ map (span_in m) (spans_of ends points)

-- the law: if an outline is within the limits, so is the moved one, and its bits are the bits moved
abbrev pub MovesDrawn : Type 0
MovesDrawn = (m : Symmetry) (ends : List ℕ) (points : List OutlinePoint) (ss : List Span) → drawn_of ends points ≡ Ok ss
    → (ts : List Span) × (drawn_of ends (points_in m points) ≡ Ok ts)
    × ((i j : ℤ) → IsCovered (centre (col_in m i j) (row_in m i j)) ts ↔ IsCovered (centre i j) ss)

-- if no pixel's centre lies from the least to the greatest of a coordinate, then their middle does not lie just between two pixels
abbrev pub HasMiddle : (Place → ℤ) → List Span → Type 0
HasMiddle coord [] = Unit {0}
HasMiddle coord (s ∷ ss) =
    AreNoPixels (least coord s ss) (greatest coord s ss) → (n : ℤ) → least coord s ss +ℤ greatest coord s ss ≢ pos 256 *ℤ n

-- so of columns if left and right change places, of rows if top and bottom do
abbrev pub HasMiddleIn : Symmetry → List Span → Type 0
HasMiddleIn Mirror = HasMiddle x_of
HasMiddleIn Flip = HasMiddle y_of
HasMiddleIn Exchange = λ ss. Unit {0}

-- the law: the frame with drop-out control of such spans, moved, is the moved frame. A middle between two columns goes to the right
-- one, mirrored or not
abbrev pub MovesDropoutFrame : Type 0
MovesDropoutFrame = (m : Symmetry) (ss : List Span) → HasMiddleIn m ss → (i j : ℤ)
    → IsInDropoutFrame (map (span_in m) ss) (col_in m i j) (row_in m i j) ↔ IsInDropoutFrame ss i j
