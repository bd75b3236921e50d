-- Outlines that are moved, or whose contours are reversed, and what that does to their bits.
use Rattle.std.specs.Prelude.{◌≡◌, ◌↔◌, ℤ, pos, ◌+ℤ◌, ◌*ℤ◌, ℕ, ◌+◌, ◌-◌, List, [], ◌∷◌, ◌++◌, map, take, drop, reverse, length, Ok}
use Rattle.std.specs.List.Sorted.{IsPermutation}
use Rattle.fx_winding.specs.Winding.{Span, IsCovered, centre}
use Rattle.fx_winding.specs.Moves.{shifted, reversed}
use Rattle.fx_outline.specs.declared.points.OutlinePoint.{OutlinePoint}
use Rattle.fx_outline.specs.Ends.{AreEnds}
use Rattle.fx_contour.specs.Contours.{contours_from, spans_of, drawn_of}

-- a point moved by x to the right and by y up, in 26.6 pixels
abbrev pub shifted_point : ℤ → ℤ → OutlinePoint → OutlinePoint
shifted_point x y p = record { x = p.x +ℤ x; y = p.y +ℤ y; on_curve = p.on_curve }

-- the points of an outline moved by k pixels to the right and l up, each pixel 64 units of 26.6
abbrev pub shifted_points : ℤ → ℤ → List OutlinePoint → List OutlinePoint
shifted_points k l = map (shifted_point (pos 64 *ℤ k) (pos 64 *ℤ l))

-- the law: the pieces of a moved outline are its pieces moved, by 128 units for each pixel
abbrev pub ShiftMovesSpans : Type 0
ShiftMovesSpans = (k l : ℤ) (ends : List ℕ) (points : List OutlinePoint)
    → spans_of ends (shifted_points k l points) ≡ map (shifted (pos 128 *ℤ k) (pos 128 *ℤ l)) (spans_of ends points)

-- the law: where an outline and the moved one are both within the limits, the moved one's bits are its bits moved
abbrev pub ShiftMovesBits : Type 0
ShiftMovesBits = (k l i j : ℤ) (ends : List ℕ) (points : List OutlinePoint) (ss ts : List Span) → drawn_of ends points ≡ Ok ss
    → drawn_of ends (shifted_points k l points) ≡ Ok ts → IsCovered (centre (i +ℤ k) (j +ℤ l)) ts ↔ IsCovered (centre i j) ss

-- the points of contours that end at these numbers, each contour's in reverse; the first contour begins at the point `start`
abbrev pub reversed_from : ℕ → List ℕ → List OutlinePoint → List OutlinePoint
reversed_from start [] points = []
reversed_from start (e ∷ es) points = reverse (take (e + 1 - start) (drop start points)) ++ reversed_from (e + 1) es points

-- the points of an outline, each contour's in reverse
abbrev pub reversed_points : List ℕ → List OutlinePoint → List OutlinePoint
reversed_points ends points = reversed_from 0 ends points

-- the law: the contours of the reversed points are the contours reversed
abbrev pub ReversalReversesContours : Type 0
ReversalReversesContours = (ends : List ℕ) (points : List OutlinePoint) → AreEnds 0 ends (length points)
    → contours_from 0 ends (reversed_points ends points) ≡ map reverse (contours_from 0 ends points)

-- the law: the pieces of an outline whose contours are reversed are its pieces reversed, in another order
abbrev pub ReversalReversesSpans : Type 0
ReversalReversesSpans = (ends : List ℕ) (points : List OutlinePoint) → AreEnds 0 ends (length points)
    → IsPermutation (map reversed (spans_of ends points)) (spans_of ends (reversed_points ends points))

-- the law: where an outline is within the limits, so is the one whose contours are reversed, and both have the same bits
abbrev pub ReversalKeepsBits : Type 0
ReversalKeepsBits = (ends : List ℕ) (points : List OutlinePoint) (ss : List Span) → AreEnds 0 ends (length points)
    → drawn_of ends points ≡ Ok ss → (ts : List Span) × (drawn_of ends (reversed_points ends points) ≡ Ok ts)
    × ((i j : ℤ) → IsCovered (centre i j) ts ↔ IsCovered (centre i j) ss)
