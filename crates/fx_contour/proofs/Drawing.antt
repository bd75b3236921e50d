-- Curves reach as far as their points do, if each contour has two points or more: `curves_reach`.
-- For `Extent::of_curves`, `PieceBounds::of_outline`, and the limit in `are_in_reach` and `outline_frame`.
use Rattle.std.proofs.Common.{subst, ℕ, zero, drop, take, length, neg_ℤ, ◌*ℤ◌, ◌≤ℤ◌, List, Option, arith, drop_of_length-le, IsTrue}
use Rattle.std.proofs.Common.{◌≡◌, ap, ◌∙◌, suc, ◌+◌, ◌-◌, ◌≤◌, map, ◌⊎◌, inl, inr, ℤ, pos, [], ◌∷◌, None, ◌↔◌, All, Bool}
use Rattle.std.proofs.lemmas.Int.{ints}
use Rattle.std.proofs.lemmas.List.{drop-drop, length-take, length-drop}
use Rattle.std.proofs.lemmas.List.Elements.{All-nil, All-cons, All-head, All-tail}
use Rattle.fx_winding.specs.Area.{Place}
use Rattle.fx_winding.specs.Outside.{joined}
use Rattle.fx_outline.specs.declared.points.OutlinePoint.{OutlinePoint}
use Rattle.fx_outline.specs.Ends.{AreEnds}
use Rattle.fx_outline.proofs.Ends.{ends_reach}
use Rattle.fx_contour.specs.declared.extent.Extent.{Extent}
use Rattle.fx_contour.specs.Curve.{doubled_of, curve_of}
use Rattle.fx_contour.specs.Contours.{contours_from, spans_of, farthest, IsInReach}
use Rattle.fx_contour.specs.Frames.{HaveAny}
use Rattle.fx_contour.specs.Bounds.{Side, left_side, right_side, bottom_side, top_side, IsOut, IsLeast, Extends, DoesReach}
use Rattle.fx_contour.specs.Bounds.{HavePoint, HaveTwo, KeepsLimit, AreBoundsOf}
use Rattle.fx_contour.proofs.Hull.{IsOfEnds, out_of_ends, hull_of, of_curve, have_either, have_left, have_right}

-- ---- parts of a list of points

of_take : (P : Place → Type 0) (n : ℕ) (xs : List OutlinePoint) → HavePoint P (take n xs) → HavePoint P xs
of_take P zero xs h = absurd h
of_take P (suc n) [] h = h
of_take P (suc n) (x ∷ xs) (inl h) = inl h
of_take P (suc n) (x ∷ xs) (inr h) = inr (of_take P n xs h)

of_drop : (P : Place → Type 0) (n : ℕ) (xs : List OutlinePoint) → HavePoint P (drop n xs) → HavePoint P xs
of_drop P zero xs h = h
of_drop P (suc n) [] h = h
of_drop P (suc n) (x ∷ xs) h = inr (of_drop P n xs h)

take_or_drop : (P : Place → Type 0) (n : ℕ) (xs : List OutlinePoint)
    → HavePoint P xs → HavePoint P (take n xs) ⊎ HavePoint P (drop n xs)
take_or_drop P zero xs h = inr h
take_or_drop P (suc n) [] h = inr h
take_or_drop P (suc n) (x ∷ xs) (inl h) = inl (inl h)
take_or_drop P (suc n) (x ∷ xs) (inr h) = elim (take_or_drop P n xs h) [ inl a ↦ inl (inr a) | inr b ↦ inr b ]

-- ---- all contours

-- if a place of the curves has P, a point has
pub any_of_curves : (P : Place → Type 0) → IsOfEnds P → (start : ℕ) (ends : List ℕ) (points : List OutlinePoint)
    → HaveAny P (joined (map curve_of (contours_from start ends points))) → HavePoint P points
any_of_curves P d start [] points h = absurd h
any_of_curves P d start (e ∷ es) points h =
    let slice = take (e + 1 - start) (drop start points) in
    elim (have_either P (curve_of slice) (joined (map curve_of (contours_from (e + 1) es points))) h) [
      | inl a ↦ of_drop P start points (of_take P (e + 1 - start) (drop start points) (of_curve P d slice a))
      | inr b ↦ any_of_curves P d (e + 1) es points b
    ]

-- a place of the curves has a point as far out
pub of_curves : (side : Side) (t : ℤ) (start : ℕ) (ends : List ℕ) (points : List OutlinePoint)
    → HaveAny (IsOut side t) (joined (map curve_of (contours_from start ends points))) → HavePoint (IsOut side t) points
of_curves side t = any_of_curves (IsOut side t) (out_of_ends side t)

slice_two : (start next : ℕ) (points : List OutlinePoint) → start + 2 ≤ next → next ≤ length points
    → 2 ≤ length (take (next - start) (drop start points))
slice_two start next points h k =
    let a = length-take (next - start) (drop start points) in let b = length-drop start points in omega arith

no_more : (P : Place → Type 0) (start : ℕ) (points : List OutlinePoint) → start ≡ length points
    → ¬ (HavePoint P (drop start points))
no_more P start points e h = subst (HavePoint P) (drop_of_length-le points (omega arith)) h

-- a point has a place of the curves as far out
to_curves : (side : Side) (t : ℤ) (start : ℕ) (ends : List ℕ) (points : List OutlinePoint) → AreEnds start ends (length points)
    → HaveTwo start ends → HavePoint (IsOut side t) (drop start points)
    → HaveAny (IsOut side t) (joined (map curve_of (contours_from start ends points)))
to_curves side t start [] points a two h = absurd (no_more (IsOut side t) start points a h)
to_curves side t start (e ∷ es) points a two h =
    let P = IsOut side t in
    let slice = take (e + 1 - start) (drop start points) in
    let rest = joined (map curve_of (contours_from (e + 1) es points)) in
    let within = ends_reach (e + 1) es (length points) a.1 in
    let longer : start + 2 ≤ e + 1 = (let l = two.0 in omega arith) in
    let next : start + (e + 1 - start) ≡ e + 1 = omega arith in
    let after : drop (e + 1 - start) (drop start points) ≡ drop (e + 1) points =
    drop-drop (e + 1 - start) start points ∙ ap (λ (n : ℕ). drop n points) next in
    elim (take_or_drop P (e + 1 - start) (drop start points) h) [
      | inl x ↦ have_left P (curve_of slice) rest ((hull_of side t slice (slice_two start (e + 1) points longer within)).1 x)
      | inr y ↦ have_right P (curve_of slice) rest (to_curves side t (e + 1) es points a.1 two.1 (subst (HavePoint P) after y))
    ]

pub curves_reach : (reach : Side → ℤ → Type 0) (ends : List ℕ) (points : List OutlinePoint) → AreEnds 0 ends (length points)
    → HaveTwo 0 ends → IsLeast reach (λ P. HavePoint P points) → IsLeast reach (λ P. HaveAny P (spans_of ends points))
curves_reach reach ends points a two h = record {
  sides = λ side t. (
    λ k. (h.sides side t).0 (of_curves side t 0 ends points k),
    λ k. to_curves side t 0 ends points a two ((h.sides side t).1 k),
  );
}

-- ---- the limit

-- a point of the list has what all have
pub point_with : (P : Place → Type 0) (Q : Type 0) (points : List OutlinePoint) → All IsInReach points
    → ((p : OutlinePoint) → IsInReach p → P (doubled_of p) → Q) → HavePoint P points → Q
point_with P Q [] n f h = absurd h
point_with P Q (p ∷ ps) n f (inl h) = f p (All-head IsInReach p ps n) h
point_with P Q (p ∷ ps) n f (inr h) = point_with P Q ps (All-tail IsInReach p ps n) f h

-- an extent that reaches no farther than points within the limit
extent_keeps : (e : Extent) (points : List OutlinePoint)
    → ((side : Side) (t : ℤ) → Extends e side t → HavePoint (IsOut side t) points)
    → All IsInReach points → KeepsLimit e
extent_keeps e points h n = ((left, right), (bottom, top))
  where
    left : neg_ℤ (pos farthest) ≤ℤ e.left
    left = point_with (IsOut left_side (pos 2 *ℤ e.left)) (neg_ℤ (pos farthest) ≤ℤ e.left) points n
        (λ p k l. let x = k.0.0 in omega (arith, ints, x, l)) (h left_side (pos 2 *ℤ e.left) (omega (arith, ints)))

    right : e.right ≤ℤ pos farthest
    right = point_with (IsOut right_side (pos 2 *ℤ e.right)) (e.right ≤ℤ pos farthest) points n
        (λ p k l. let x = k.0.1 in omega (arith, ints, x, l)) (h right_side (pos 2 *ℤ e.right) (omega (arith, ints)))

    bottom : neg_ℤ (pos farthest) ≤ℤ e.bottom
    bottom = point_with (IsOut bottom_side (pos 2 *ℤ e.bottom)) (neg_ℤ (pos farthest) ≤ℤ e.bottom) points n
        (λ p k l. let x = k.1.0 in omega (arith, ints, x, l)) (h bottom_side (pos 2 *ℤ e.bottom) (omega (arith, ints)))

    top : e.top ≤ℤ pos farthest
    top = point_with (IsOut top_side (pos 2 *ℤ e.top)) (e.top ≤ℤ pos farthest) points n
        (λ p k l. let x = k.1.1 in omega (arith, ints, x, l)) (h top_side (pos 2 *ℤ e.top) (omega (arith, ints)))

-- the extent of the curves keeps the limit, if the points are within it
pub curves_keep : (e : Extent) (ends : List ℕ) (points : List OutlinePoint)
    → IsLeast (Extends e) (λ P. HaveAny P (spans_of ends points)) → All IsInReach points → KeepsLimit e
curves_keep e ends points h n = extent_keeps e points (λ side t k. of_curves side t 0 ends points ((h.sides side t).1 k)) n

-- points that an extent holds are within the limit, if it is
all_near : (e : Extent) (points : List OutlinePoint) → KeepsLimit e
    → ((side : Side) (t : ℤ) → HavePoint (IsOut side t) points → Extends e side t) → All IsInReach points
all_near e [] k h = All-nil IsInReach
all_near e (p ∷ ps) k h =
    let l = h left_side (pos 2 *ℤ p.x) (inl (omega (arith, ints))) in
    let r = h right_side (pos 2 *ℤ p.x) (inl (omega (arith, ints))) in
    let b = h bottom_side (pos 2 *ℤ p.y) (inl (omega (arith, ints))) in
    let t = h top_side (pos 2 *ℤ p.y) (inl (omega (arith, ints))) in
    let kl = k.0.0 in
    let kr = k.0.1 in
    let kb = k.1.0 in
    let kt = k.1.1 in
    All-cons IsInReach p ps
    ((omega (arith, ints, l, kl), omega (arith, ints, r, kr)), (omega (arith, ints, b, kb), omega (arith, ints, t, kt)))
    (all_near e ps k (λ side t x. h side t (inr x)))

limit_is_reach : (e : Extent) (points : List OutlinePoint) → IsLeast (Extends e) (λ P. HavePoint P points)
    → KeepsLimit e ↔ All IsInReach points
limit_is_reach e points h =
    (λ k. all_near e points k (λ side t. (h.sides side t).0), extent_keeps e points (λ side t. (h.sides side t).1))

pub reach_tested : (b : Bool) (e : Extent) (points : List OutlinePoint) → IsTrue b ↔ KeepsLimit e
    → IsLeast (Extends e) (λ P. HavePoint P points) → IsTrue b ↔ All IsInReach points
reach_tested b e points d h =
    let l = limit_is_reach e points h in (λ t. l.0 (d.0 t), λ n. d.1 (l.1 n))

-- ---- an extent that there may be

-- no extent: no point
pub no_points_near : (o : Option Extent) (points : List OutlinePoint) → o ≡ None
    → IsLeast (DoesReach Extends o) (λ P. HavePoint P points) → All IsInReach points
no_points_near o [] s h = All-nil IsInReach
no_points_near o (p ∷ ps) s h =
    let P : Option Extent → Type 0 = λ x. IsLeast (DoesReach Extends x) (λ P. HavePoint P (p ∷ ps)) in
    absurd (((subst P s h).sides left_side (pos 2 *ℤ p.x)).0 (inl (omega (arith, ints))))

pub no_points_no_bounds : (o : Option Extent) (ends : List ℕ) (points : List OutlinePoint) → o ≡ None
    → IsLeast (DoesReach Extends o) (λ P. HavePoint P points) → AreBoundsOf None (spans_of ends points)
no_points_no_bounds o ends points s h =
    let P : Option Extent → Type 0 = λ x. IsLeast (DoesReach Extends x) (λ P. HavePoint P points) in
    let g = subst P s h in
    record { sides = λ side t. (λ k. (g.sides side t).0 (of_curves side t 0 ends points k), λ n. absurd n) }
