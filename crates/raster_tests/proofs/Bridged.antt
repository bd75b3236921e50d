-- Which pixels close a gap follows test by test: `outside`, `closed_before`, `closes_before`.
-- Serves `closed`.
use Rattle.std.proofs.Common.{◌≡◌, ◌⊎◌, ◌↔◌, inl, inr, IsTrue, Bool, false, subst, ℤ, pos, ◌-ℤ◌, List}
use Rattle.std.proofs.Common.{Any}
use Rattle.fx_winding.specs.Area.{Place}
use Rattle.fx_dropout.specs.Dropout.{IsGap, IsBridged, IsClosedByLeft, IsClosedByRight}
use Rattle.fx_winding.specs.Meets.{IsMet}
use Rattle.fx_winding.specs.Winding.{Span}
use Rattle.fx_winding.proofs.Places.{clash}

-- a pixel is set so far, or closes a gap by the rule that never chooses the next one
abbrev pub IsBridgedLower : List Span → (ℤ → ℤ → Type 0) → (ℤ → ℤ → Type 0) → ℤ → ℤ → Type 0
IsBridgedLower ss In S = IsBridged ss In (λ _ _. ⊥) S

-- a pixel that is not set and not inside
pub outside : (ss : List Span) (In S : ℤ → ℤ → Type 0) (i j : ℤ) → ¬ (S i j) → ¬ (In i j) → ¬ (IsBridgedLower ss In S i j)
outside ss In S i j unset out (inl s) = unset s
outside ss In S i j unset out (inr b) = out b.inside

-- one whose gap is none, and whose left neighbour is inside
pub closed_before : (ss : List Span) (In S : ℤ → ℤ → Type 0) (i j : ℤ) → ¬ (S i j) → ¬ (IsGap ss S i j) → In (i -ℤ pos 1) j
    → ¬ (IsBridgedLower ss In S i j)
closed_before ss In S i j unset none left (inl s) = unset s
closed_before ss In S i j unset none left (inr b) = by b.closes
  where
    right : ⊥ ⊎ ¬ (In (i -ℤ pos 1) j) → ⊥
    right (inl e) = e
    right (inr out) = out left

    by : IsClosedByLeft ss In (λ _ _. ⊥) S i j ⊎ IsClosedByRight ss In (λ _ _. ⊥) S (i -ℤ pos 1) j → ⊥
    by (inl c) = none c.gap
    by (inr c) = right c.chosen

-- one whose left neighbour is not
pub closes_before : (ss : List Span) (In S : ℤ → ℤ → Type 0) (i j : ℤ) (r : Bool) → ¬ (S i j) → In i j → ¬ (IsGap ss S i j)
    → ¬ (In (i -ℤ pos 1) j) → (IsTrue r ↔ IsGap ss S (i -ℤ pos 1) j) → IsTrue r ↔ IsBridgedLower ss In S i j
closes_before ss In S i j r unset inside none out gap =
    (λ t. inr (record { inside = inside; closes = inr (record { gap = gap.0 t; chosen = inr out }) }), λ b. to b)
  where
    by : IsClosedByLeft ss In (λ _ _. ⊥) S i j ⊎ IsClosedByRight ss In (λ _ _. ⊥) S (i -ℤ pos 1) j → IsTrue r
    by (inl c) = absurd (none c.gap)
    by (inr c) = gap.1 c.gap

    to : IsBridgedLower ss In S i j → IsTrue r
    to (inl s) = absurd (unset s)
    to (inr b) = by b.closes

-- what a test tells of another place of the same coordinates, and of the same pieces
pub moved : (P : ℤ → ℤ → Type 0) {x y i j : ℤ} (r : Bool) → x ≡ i → y ≡ j → (IsTrue r ↔ P x y) → IsTrue r ↔ P i j
moved P r ex ey h = subst (λ (p : ℤ × ℤ). IsTrue r ↔ P p.0 p.1) (λ t. (ex t, ey t)) h

pub met_at : {p q x y : Place} {ss ts : List Span} (r : Bool) → p ≡ x → q ≡ y → ss ≡ ts → (IsTrue r ↔ Any (IsMet p q) ss)
    → IsTrue r ↔ Any (IsMet x y) ts
met_at r ep eq es h = subst (λ (z : Place × Place × List Span). IsTrue r ↔ Any (IsMet z.0 z.1) z.2) (λ t. (ep t, eq t, es t)) h

-- what is not told to be so is not
pub none : {X : Type 0} (r : Bool) → r ≡ false → (IsTrue r ↔ X) → ¬ X
none r e h x = clash r e (h.1 x)
