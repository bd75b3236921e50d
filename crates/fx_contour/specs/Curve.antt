-- The curve of one contour: lines and quadratic arcs, in 1/128 pixel, of points in 26.6 (Apple TrueType Reference Manual,
-- "Digitizing Letterform Designs"; OpenType, "glyf").
use Rattle.std.specs.Prelude.{◌≡◌, pos, ◌+ℤ◌, ◌*ℤ◌, Bool, true, ◌||◌, if◌then◌else◌, List, [], ◌∷◌, ◌++◌, Option, Some, None}
use Rattle.std.specs.Prelude.{option_to_list}
use Rattle.fx_winding.specs.Area.{Place}
use Rattle.fx_winding.specs.Winding.{Span}
use Rattle.fx_winding.specs.Outside.{IsClosed}
use Rattle.fx_outline.specs.declared.points.OutlinePoint.{OutlinePoint}

-- a point in 1/128 pixel
abbrev pub doubled_of : OutlinePoint → Place
doubled_of p = record { x = pos 2 *ℤ p.x; y = pos 2 *ℤ p.y }

-- the place half way between two points, in 1/128 pixel
abbrev pub middle_of : OutlinePoint → OutlinePoint → Place
middle_of p q = record { x = p.x +ℤ q.x; y = p.y +ℤ q.y }

-- ---- by neighbours

-- the place of the curve between two neighbours: at the first that is on it, else half way
abbrev pub joint_of : OutlinePoint → OutlinePoint → Place
joint_of p q = if p.on_curve then doubled_of p else (if q.on_curve then doubled_of q else middle_of p q)

-- what a point q between its neighbours p and r adds: an arc if q is off the curve, a line from p if both are on it
abbrev pub span_at : OutlinePoint → OutlinePoint → OutlinePoint → Option Span
span_at p q r =
    if q.on_curve then (if p.on_curve then Some (record { a = doubled_of p; b = None; c = doubled_of q }) else None)
    else Some (record { a = joint_of p q; b = Some (doubled_of q); c = joint_of q r })

-- the first point of a list, or r
abbrev pub first_or : List OutlinePoint → OutlinePoint → OutlinePoint
first_or [] r = r
first_or (q ∷ qs) r = q

-- the last point of a list that begins with p
abbrev pub last_or : OutlinePoint → List OutlinePoint → OutlinePoint
last_or p [] = p
last_or p (q ∷ qs) = last_or q qs

-- what the points of a list add, with p before them and r after
abbrev pub spans_between : OutlinePoint → List OutlinePoint → OutlinePoint → List Span
spans_between p [] r = []
spans_between p (q ∷ qs) r = option_to_list (span_at p q (first_or qs r)) ++ spans_between q qs r

-- the curve of a contour, whose last point comes before its first: none if it has fewer than two points
abbrev pub curve_of : List OutlinePoint → List Span
curve_of [] = []
curve_of (p ∷ []) = []
curve_of (p ∷ q ∷ qs) = spans_between (last_or q qs) (p ∷ q ∷ qs) p

-- the law: the curve of a contour leads back to its start
abbrev pub CurvesAreClosed : Type 0
CurvesAreClosed = (points : List OutlinePoint) → IsClosed (curve_of points)

-- ---- by midpoints

-- a point of a contour that has its midpoints, in 1/128 pixel
pub record Knot : Type 0 where
  pub at : Place
  pub on_curve : Bool

-- a point as it is
abbrev pub knot_of : OutlinePoint → Knot
knot_of p = record { at = doubled_of p; on_curve = p.on_curve }

-- the midpoint of two neighbours that are both off the curve
abbrev pub midpoint : OutlinePoint → OutlinePoint → List Knot
midpoint p q = if p.on_curve || q.on_curve then [] else (record { at = middle_of p q; on_curve = true } ∷ [])

-- the points of a list, each after its midpoint with the one before, with p before them
abbrev pub with_midpoints : OutlinePoint → List OutlinePoint → List Knot
with_midpoints p [] = []
with_midpoints p (q ∷ qs) = midpoint p q ++ (knot_of q ∷ with_midpoints q qs)

-- a line for two neighbours on the curve, an arc for three of which the middle_of one is off it
abbrev pub spans_of_three : Knot → Knot → Knot → List Span
spans_of_three p q r =
    if q.on_curve then (if p.on_curve then (record { a = p.at; b = None; c = q.at } ∷ []) else [])
    else (record { a = p.at; b = Some q.at; c = r.at } ∷ [])

-- the first of a list, or r
abbrev pub head_or : List Knot → Knot → Knot
head_or [] r = r
head_or (q ∷ qs) r = q

-- the spans of each three neighbours, with p before the list and r after
abbrev pub along : Knot → List Knot → Knot → List Span
along p [] r = []
along p (q ∷ qs) r = spans_of_three p q (head_or qs r) ++ along q qs r

-- the curve of a contour as a reader draws it: midpoints first, then lines and arcs
abbrev pub curve_by_midpoints : List OutlinePoint → List Span
curve_by_midpoints [] = []
curve_by_midpoints (p ∷ []) = []
curve_by_midpoints (p ∷ q ∷ qs) =
    let before = last_or q qs in
    let knots = with_midpoints before (p ∷ q ∷ qs) in
    along (knot_of before) knots (head_or knots (knot_of p))

-- the law: both are one curve
abbrev pub CurveIsByMidpoints : Type 0
CurveIsByMidpoints = (points : List OutlinePoint) → curve_of points ≡ curve_by_midpoints points
