-- The extent grows to hold points (`grown_more`), and contour by contour to that of the outline: `enclosed_end`.
-- For `Extent::with_points`, `Extent::of`, `Extent::with_contour` and `Extent::of_contours`.
use Rattle.std.proofs.Common.{◌≡◌, sym, subst, ℕ, ◌+◌, ◌-◌, ◌<◌, ◌≤◌, drop, take, length, map, get_or, ◌⊎◌}
use Rattle.std.proofs.Common.{inl, inr, ℤ, List, ◌∷◌, ◌++◌, Option, None, ◌↔◌, drop_of_length-le, arith}
use Rattle.std.proofs.lemmas.List.{drop_more}
use Rattle.fx_winding.specs.Area.{Place}
use Rattle.fx_winding.specs.Winding.{Span}
use Rattle.fx_winding.specs.Outside.{joined}
use Rattle.fx_outline.specs.declared.points.OutlinePoint.{OutlinePoint}
use Rattle.fx_outline.specs.Ends.{AreEnds}
use Rattle.fx_contour.specs.declared.extent.Extent.{Extent}
use Rattle.fx_contour.specs.Curve.{curve_of}
use Rattle.fx_contour.specs.Contours.{contours_from, spans_of}
use Rattle.fx_contour.specs.Frames.{HaveAny}
use Rattle.fx_contour.specs.Bounds.{Side, IsOut, Grows, IsLeast, Extends, DoesReach, HavePoint}
use Rattle.fx_contour.proofs.Gather.{ends_left_at, next_within}
use Rattle.fx_contour.proofs.Growing.{one_less, none_left}
use Rattle.fx_contour.proofs.Hull.{hull_of, have_either, have_left, have_right}

-- ---- points

-- the extent so far and the points that are left reach as far as the old extent and all points
pub record Left (old b : Extent) (points rest : List OutlinePoint) : Type 0 where
  pub sides : (side : Side) (t : ℤ)
      → (Extends old side t ⊎ HavePoint (IsOut side t) points) ↔ (Extends b side t ⊎ HavePoint (IsOut side t) rest)

-- ---- a contour

-- what a contour of two points or more adds is what its points add
along : (A C : Type 0) (side : Side) (t : ℤ) (points : List OutlinePoint) → 2 ≤ length points
    → C ↔ (A ⊎ HavePoint (IsOut side t) points) → C ↔ (A ⊎ HaveAny (IsOut side t) (curve_of points))
along A C side t points h k = grind (arith, h, k, hull_of)

pub grown_more : (b c : Extent) (points : List OutlinePoint) → 2 ≤ length points
    → Grows (Extends b) (Extends c) (λ P. HavePoint P points)
    → Grows (Extends b) (Extends c) (λ P. HaveAny P (curve_of points))
grown_more b c points h g =
    record { sides = λ side t. along (Extends b side t) (Extends c side t) side t points h (g.sides side t) }

pub grown_first : (c : Option Extent) (points : List OutlinePoint) → 2 ≤ length points
    → IsLeast (DoesReach Extends c) (λ P. HavePoint P points)
    → Grows (DoesReach Extends None) (DoesReach Extends c) (λ P. HaveAny P (curve_of points))
grown_first c points h g = record {
  sides = λ side t. along ⊥ (DoesReach Extends c side t) side t points h
      (λ x. inr ((g.sides side t).1 x), λ x. elim x [ inl n ↦ absurd n | inr b ↦ (g.sides side t).0 b ]);
}

-- ---- the contours of an outline

-- the box so far and the contours that are left reach as far as all do
pub record Enclosed (b : Option Extent) (start : ℕ) (ends : List ℕ) (k : ℕ) (points : List OutlinePoint) : Type 0 where
  pub sides : (side : Side) (t : ℤ) → HaveAny (IsOut side t) (spans_of ends points) ↔
      (DoesReach Extends b side t ⊎ HaveAny (IsOut side t) (joined (map curve_of (contours_from start (drop k ends) points))))
  pub ends_left : AreEnds start (drop k ends) (length points)
  pub within : start ≤ length points

split : (X A : Type 0) (P : Place → Type 0) (xs ys : List Span) → X ↔ (A ⊎ HaveAny P (xs ++ ys))
    → X ↔ (A ⊎ (HaveAny P xs ⊎ HaveAny P ys))
split X A P xs ys h = grind (arith, h, have_either P xs ys, have_left P xs ys, have_right P xs ys)

pub enclosed_more : (b c : Option Extent) (start : ℕ) (ends : List ℕ) (k : ℕ) (points : List OutlinePoint) (e d : ℕ)
    → Enclosed b start ends k points → k < length ends → e ≡ get_or ends k d
    → Grows (DoesReach Extends b) (DoesReach Extends c) (λ P. HaveAny P (curve_of (take (e + 1 - start) (drop start points))))
    → Enclosed c (e + 1) ends (k + 1) points
enclosed_more b c start ends k points e d x h s g =
    let l = ends_left_at start ends k points e d x.ends_left h s in
    let w = next_within start ends k points e d x.ends_left h s in
    let one = curve_of (take (e + 1 - start) (drop start points)) in
    let rest = joined (map curve_of (contours_from (e + 1) (drop (k + 1) ends) points)) in
    record {
      sides = λ side t.
          let X = HaveAny (IsOut side t) (spans_of ends points) in
          let P : List ℕ → Type 0 =
          λ xs. X ↔ (DoesReach Extends b side t ⊎ HaveAny (IsOut side t) (joined (map curve_of (contours_from start xs points)))) in
          let Q : ℕ → Type 0 = λ y. X ↔ (DoesReach Extends b side t ⊎ HaveAny (IsOut side t)
          (joined (map curve_of (contours_from start (y ∷ drop (k + 1) ends) points)))) in
          let all_spans : X ↔ (DoesReach Extends b side t ⊎ HaveAny (IsOut side t) (one ++ rest)) =
          subst Q (sym s) (subst P (drop_more ends k d h) (x.sides side t)) in
          one_less X (DoesReach Extends b side t) (DoesReach Extends c side t) (HaveAny (IsOut side t) one)
          (HaveAny (IsOut side t) rest) (split X (DoesReach Extends b side t) (IsOut side t) one rest all_spans) (g.sides side t);
      ends_left = l.1;
      within = w.1;
    }

pub enclosed_end : (b : Option Extent) (start : ℕ) (ends : List ℕ) (k : ℕ) (points : List OutlinePoint)
    → Enclosed b start ends k points → length ends ≤ k
    → IsLeast (DoesReach Extends b) (λ P. HaveAny P (spans_of ends points))
enclosed_end b start ends k points x h = grind (arith, x, h, none_left, drop_of_length-le)
