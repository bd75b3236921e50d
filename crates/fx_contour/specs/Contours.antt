-- The curves of an outline, one contour after the other (OpenType, "glyf", endPtsOfContours).
use Rattle.std.specs.Prelude.{◌↔◌, IsTrue, All, ℤ, pos, neg_ℤ, ◌≤ℤ◌, int_le, Bool, not, ◌&&◌, Result, Ok, ℕ, ◌+◌, ◌-◌, ◌^◌}
use Rattle.std.specs.Prelude.{List, [], ◌∷◌, map, take, drop}
use Rattle.std.specs.List.{list_all}
use Rattle.fx_fixed.specs.Chain.{◌>>=◌, refuse}
use Rattle.fx_fixed.specs.Ranges.{IsWithin}
use Rattle.fx_winding.specs.Winding.{Span}
use Rattle.fx_winding.specs.Outside.{joined}
use Rattle.fx_outline.specs.declared.points.OutlinePoint.{OutlinePoint}
use Rattle.fx_contour.specs.declared.fault.ContourFault.{ContourFault}
use Rattle.fx_contour.specs.declared.fault.ContourFault.TheVariants.{TooFar}
use Rattle.fx_contour.specs.Curve.{curve_of}

-- the contours with these last points; the first of them begins at the point `start`
abbrev pub contours_from : ℕ → List ℕ → List OutlinePoint → List (List OutlinePoint)
contours_from start [] points = []
contours_from start (e ∷ es) points = take (e + 1 - start) (drop start points) ∷ contours_from (e + 1) es points

-- the spans of an outline with these contour ends and points
abbrev pub spans_of : List ℕ → List OutlinePoint → List Span
spans_of ends points = joined (map curve_of (contours_from 0 ends points))

-- the greatest distance of a point from either axis, in 26.6 pixels (a limit of this project)
abbrev pub farthest : ℕ
farthest = 2 ^ 21

-- the coordinates from one to another are within the limit
abbrev pub IsRangeNear : ℤ → ℤ → Type 0
IsRangeNear least greatest = (neg_ℤ (pos farthest) ≤ℤ least) × (greatest ≤ℤ pos farthest)

-- a point within the limit
abbrev pub IsInReach : OutlinePoint → Type 0
IsInReach p = IsWithin farthest p.x × IsWithin farthest p.y

-- the same as a test of a number
abbrev pub is_within : ℕ → ℤ → Bool
is_within n z = int_le (neg_ℤ (pos n)) z && int_le z (pos n)

-- and of a point
abbrev pub is_in_reach : OutlinePoint → Bool
is_in_reach p = is_within farthest p.x && is_within farthest p.y

-- the law: the test of all points decides whether all are within the limit
abbrev pub ReachIsTested : Type 0
ReachIsTested = (points : List OutlinePoint) → IsTrue (list_all is_in_reach points) ↔ All IsInReach points

-- the spans of an outline, none of whose points may lie too far out
unfoldable pub drawn_of : List ℕ → List OutlinePoint → Result (List Span) ContourFault
drawn_of ends points = do
  _ ← refuse (not (list_all is_in_reach points)) TooFar
  Ok (spans_of ends points)
