-- The frame with drop-out control has a pixel of each gap: `met_rows_are_kept`, `met_columns_are_kept`.
-- For the law `dropout`.
use Rattle.std.proofs.Common.{◌≡◌, ◌⊎◌, inl, inr, refl, ℤ, pos, ◌+ℤ◌, ◌*ℤ◌, ◌≤ℤ◌, ◌<ℤ◌, List, [], ◌∷◌, map, Any, arith}
use Rattle.fx_fixed.proofs.Linear.{signed}
use Rattle.fx_fixed.proofs.Order.{below_or_not_ℤ}
use Rattle.fx_winding.specs.Area.{Place}
use Rattle.fx_winding.specs.Turned.{turned_place, turned_span}
use Rattle.fx_winding.specs.Meets.{IsMet}
use Rattle.fx_winding.specs.Outside.{HasAll}
use Rattle.fx_winding.specs.Winding.{Span, centre}
use Rattle.fx_winding.proofs.Aside.{left_not_met, right_not_met}
use Rattle.fx_winding.proofs.Covers.{any_cases}
use Rattle.fx_winding.proofs.Meeting.{above_not_met, below_not_met}
use Rattle.fx_contour.specs.DropoutFrames.{x_of, y_of, IsKept, MetRowsAreKept, MetColumnsAreKept}
use Rattle.fx_contour.specs.Frames.{HasAny, HaveAny}
use Rattle.fx_contour.proofs.Extents.{least_reaches, greatest_reaches}
use Rattle.fx_contour.proofs.Kept.{kept_of_two, kept_across}
use Rattle.fx_contour.proofs.Outside.{piece_either}

-- ---- a piece that meets the segment has points on each side of it

-- the points that lie no farther right than q, no farther left than p, and on both sides of the row, or on it
record IsAround (p q : Place) (R : (Place → Type 0) → Type 0) : Type 0 where
  left : R (λ e. e.x ≤ℤ q.x)
  right : R (λ e. p.x ≤ℤ e.x)
  bottom : R (λ e. e.y ≤ℤ p.y)
  top : R (λ e. p.y ≤ℤ e.y)

either_has : (P Q : Place → Type 0) (s : Span) → ((e : Place) → P e ⊎ Q e) → ¬ (HasAll P s) → HasAny Q s
either_has P Q s d n = elim (piece_either P Q d s) [ inl h ↦ absurd (n h) | inr h ↦ h ]

piece_around : (p q : Place) (s : Span) → q.y ≡ p.y → p.x ≤ℤ q.x → IsMet p q s → IsAround p q (λ P. HasAny P s)
piece_around p q s e l m = record {
  left = either_has (λ e. q.x <ℤ e.x) (λ e. e.x ≤ℤ q.x) s (λ r. below_or_not_ℤ q.x r.x) (λ h. right_not_met p q s e l h m);
  right = either_has (λ e. e.x <ℤ p.x) (λ e. p.x ≤ℤ e.x) s (λ r. below_or_not_ℤ r.x p.x) (λ h. left_not_met p q s l h m);
  bottom = either_has (λ e. p.y <ℤ e.y) (λ e. e.y ≤ℤ p.y) s (λ r. below_or_not_ℤ p.y r.y) (λ h. above_not_met p q s e h m);
  top = either_has (λ e. e.y <ℤ p.y) (λ e. p.y ≤ℤ e.y) s (λ r. below_or_not_ℤ r.y p.y) (λ h. below_not_met p q s e h m);
}

around_first : (p q : Place) (s : Span) (ss : List Span) → IsAround p q (λ P. HasAny P s) → IsAround p q (λ P. HaveAny P (s ∷ ss))
around_first p q s ss h = record { left = inl h.left; right = inl h.right; bottom = inl h.bottom; top = inl h.top }

around_later : (p q : Place) (s : Span) (ss : List Span) → IsAround p q (λ P. HaveAny P ss) → IsAround p q (λ P. HaveAny P (s ∷ ss))
around_later p q s ss h = record { left = inr h.left; right = inr h.right; bottom = inr h.bottom; top = inr h.top }

any_around : (p q : Place) (ss : List Span) → q.y ≡ p.y → p.x ≤ℤ q.x → Any (IsMet p q) ss → IsAround p q (λ P. HaveAny P ss)
any_around p q [] e l (k, s, within, is, m) = absurd (omega (arith, within))
any_around p q (s ∷ ss) e l a = elim (any_cases (IsMet p q) s ss a)
    [ inl m ↦ around_first p q s ss (piece_around p q s e l m) | inr r ↦ around_later p q s ss (any_around p q ss e l r) ]

-- a point of turned spans is a point of the spans
turned_back : (P : Place → Type 0) (ss : List Span) → HaveAny P (map turned_span ss) → HaveAny (λ e. P (turned_place e)) ss
turned_back P [] h = h
turned_back P (s ∷ ss) (inr h) = inr (turned_back P ss h)
turned_back P (s ∷ ss) (inl (inl h)) = inl (inl h)
turned_back P (s ∷ ss) (inl (inr (inr h))) = inl (inr (inr h))
turned_back P (s ∷ ss) (inl (inr (inl h))) = grind (arith)

-- ---- one of two neighbours is kept

next_centre : (i : ℤ) → (pos 128 *ℤ i +ℤ pos 64) ≤ℤ (pos 128 *ℤ (i +ℤ pos 1) +ℤ pos 64)
next_centre i = omega (arith, signed)

kept_along : (coord : Place → ℤ) (s : Span) (ss : List Span) (i : ℤ)
    → HaveAny (λ e. coord e ≤ℤ (pos 128 *ℤ (i +ℤ pos 1) +ℤ pos 64)) (s ∷ ss)
    → HaveAny (λ e. (pos 128 *ℤ i +ℤ pos 64) ≤ℤ coord e) (s ∷ ss)
    → IsKept coord (s ∷ ss) i ⊎ IsKept coord (s ∷ ss) (i +ℤ pos 1)
kept_along coord s ss i l r = kept_of_two _ _ i ((least_reaches coord s ss _).0 l) ((greatest_reaches coord s ss _).0 r)

pub met_rows_are_kept : MetRowsAreKept
met_rows_are_kept [] i j (k, s, within, is, m) = absurd (omega (arith, within))
met_rows_are_kept (s ∷ ss) i j a =
    let h = any_around (centre i j) (centre (i +ℤ pos 1) j) (s ∷ ss) refl (next_centre i) a in
    let row = kept_across y_of s ss j h.bottom h.top in
    elim (kept_along x_of s ss i h.left h.right) [ inl k ↦ inl (k, row) | inr k ↦ inr (k, row) ]

pub met_columns_are_kept : MetColumnsAreKept
met_columns_are_kept [] i j (k, s, within, is, m) = absurd (omega (arith, within))
met_columns_are_kept (s ∷ ss) i j a =
    let h = any_around (centre j i) (centre (j +ℤ pos 1) i) (map turned_span (s ∷ ss)) refl (next_centre j) a in
    let bottom = turned_back _ (s ∷ ss) h.bottom in
    let top = turned_back _ (s ∷ ss) h.top in
    let column = kept_across x_of s ss i bottom top in
    elim (kept_along y_of s ss j (turned_back _ (s ∷ ss) h.left) (turned_back _ (s ∷ ss) h.right))
    [ inl k ↦ inl (column, k) | inr k ↦ inr (column, k) ]
