-- The curve of a contour is a closed chain (`closed`), the one that goes by midpoints (`by_midpoints`).
-- For the laws of `laws.rt`, and for the clause `closed` of `pieces`.
use Rattle.std.proofs.Common.{◌≡◌, refl, sym, subst, ℤ, pos, Bool, List, [], ◌∷◌, ◌++◌, map, Option, Some, None, arith}
use Rattle.std.proofs.Common.{option_to_list}
use Rattle.fx_winding.specs.Area.{Place}
use Rattle.fx_winding.specs.Winding.{Span}
use Rattle.fx_winding.specs.Outside.{Leads, IsOutline}
use Rattle.fx_outline.specs.declared.points.OutlinePoint.{OutlinePoint}
use Rattle.fx_contour.specs.Curve.{Knot, doubled_of, joint_of, span_at, first_or, last_or, spans_between, curve_of}
use Rattle.fx_contour.specs.Curve.{CurvesAreClosed, knot_of, midpoint, with_midpoints, head_or, along, CurveIsByMidpoints}

-- a line and an arc
abbrev pub line_of : Place → Place → Option Span
line_of a c = Some (record { a = a; b = None; c = c })

abbrev pub arc_of : Place → Place → Place → Option Span
arc_of a b c = Some (record { a = a; b = Some b; c = c })

-- what q adds leads from the joint_of before it to the joint_of after it
one_leads : (p q r : OutlinePoint) (ss : List Span) (y : Place) → Leads (joint_of q r) ss y
    → Leads (joint_of p q) (option_to_list (span_at p q r) ++ ss) y
one_leads p q r ss y h = grind (arith, h)

chain : (p : OutlinePoint) (qs : List OutlinePoint) (r : OutlinePoint)
    → Leads (joint_of p (first_or qs r)) (spans_between p qs r) (joint_of (last_or p qs) r)
chain p [] r = refl
chain p (q ∷ qs) r = one_leads p q (first_or qs r) (spans_between q qs r) (joint_of (last_or q qs) r) (chain q qs r)

pub closed : CurvesAreClosed
closed [] = (record { x = pos 0; y = pos 0 }, refl)
closed (p ∷ []) = (doubled_of p, refl)
closed (p ∷ q ∷ qs) = (joint_of (last_or q qs) p, chain (last_or q qs) (p ∷ q ∷ qs) p)

-- the knot after q's
abbrev next_knot : OutlinePoint → OutlinePoint → Knot
next_knot q s = head_or (midpoint q s) (knot_of s)

head_more : (q s : OutlinePoint) (qs : List OutlinePoint) (k : Knot) → head_or (with_midpoints q (s ∷ qs)) k ≡ next_knot q s
head_more q s qs k = grind (arith)

head_with_midpoints : (q : OutlinePoint) (qs : List OutlinePoint) (r : OutlinePoint)
    → head_or (with_midpoints q qs) (next_knot (last_or q qs) r) ≡ next_knot q (first_or qs r)
head_with_midpoints q [] r = refl
head_with_midpoints q (s ∷ qs) r = head_more q s qs (next_knot (last_or s qs) r)

-- a point by its fields
unfoldable pub point : ℤ → ℤ → Bool → OutlinePoint
point x y b = record { x = x; y = y; on_curve = b }

step : (px py qx qy sx sy : ℤ) (a b c : Bool) (ks : List Knot) (k : Knot) (ss : List Span)
    → along (knot_of (point qx qy b)) ks k ≡ ss → head_or ks k ≡ next_knot (point qx qy b) (point sx sy c)
    → along (knot_of (point px py a)) (midpoint (point px py a) (point qx qy b) ++ (knot_of (point qx qy b) ∷ ks)) k ≡
    option_to_list (span_at (point px py a) (point qx qy b) (point sx sy c)) ++ ss
unfolding point
step px py qx qy sx sy a b c ks k ss e h = grind (arith, e, h)

same : (p : OutlinePoint) (qs : List OutlinePoint) (r : OutlinePoint)
    → along (knot_of p) (with_midpoints p qs) (next_knot (last_or p qs) r) ≡ spans_between p qs r
unfolding point
same p [] r = refl
same p (q ∷ qs) r =
    let s = first_or qs r in
    step p.x p.y q.x q.y s.x s.y p.on_curve q.on_curve s.on_curve (with_midpoints q qs) (next_knot (last_or q qs) r)
    (spans_between q qs r) (same q qs r) (head_with_midpoints q qs r)

pub by_midpoints : CurveIsByMidpoints
by_midpoints [] = refl
by_midpoints (p ∷ []) = refl
by_midpoints (p ∷ q ∷ qs) =
    let before = last_or q qs in
    let P : Knot → Type 0 = λ k. curve_of (p ∷ q ∷ qs) ≡ along (knot_of before) (with_midpoints before (p ∷ q ∷ qs)) k in
    subst P (sym (head_more before p (q ∷ qs) (knot_of p))) (sym (same before (p ∷ q ∷ qs) p))

-- the curves of contours are closed
pub all_closed : (cs : List (List OutlinePoint)) → IsOutline (map curve_of cs)
all_closed [] = tt
all_closed (c ∷ cs) = (closed c, all_closed cs)
