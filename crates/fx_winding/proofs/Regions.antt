-- A place in an arc's region counts by the sign of the arc's area (`region_in`), and any other not at all (`region_out`).
-- Serves the laws of reversed, moved and halved pieces.
use Rattle.std.proofs.Common.{◌≡◌, refl, ap, ◌∙◌, subst, ◌⊎◌, inl, inr, ℤ, pos, ◌<ℤ◌, Bool, true, false, ◌&&◌, ◌||◌, if◌then◌else◌, Some}
use Rattle.std.proofs.Common.{arith}
use Rattle.std.proofs.lemmas.Int.{by_lt_z}
use Rattle.fx_fixed.proofs.Signs.{square_at_least_zero}
use Rattle.fx_fixed.proofs.Linear.{signed_linear}
use Rattle.fx_winding.specs.Area.{Place, area, gap_of}
use Rattle.fx_winding.specs.Winding.{sign, weight_a, weight_b, weight_c, is_inside, is_on_chord, is_right_of_chord, is_in_region}
use Rattle.fx_winding.specs.Winding.{region_part}
use Rattle.fx_winding.proofs.Places.{clash}
use Rattle.fx_winding.proofs.Triangle.{third_above}

-- a place with these weights is strictly between the arc and its chord, or on a chord that belongs to the region
abbrev pub IsIn : ℤ → ℤ → ℤ → Bool → Type 0
IsIn u v w right = ((pos 0 <ℤ u) × (pos 0 <ℤ v) × (pos 0 <ℤ w) × (pos 0 <ℤ gap_of u v w))
    ⊎ ((v ≡ pos 0) × (pos 0 <ℤ u) × (pos 0 <ℤ w) × (right ≡ true))

-- p is in the region of the arc
abbrev pub IsInRegion : Place → Place → Place → Place → Type 0
IsInRegion a b c p = IsIn (weight_a a b c p) (weight_b a b c p) (weight_c a b c p) (is_right_of_chord a b c)

pub move_in : {u v w u' v' w' : ℤ} {r r' : Bool} → u ≡ u' → v ≡ v' → w ≡ w' → r ≡ r' → IsIn u v w r → IsIn u' v' w' r'
move_in eu ev ew er h = subst (λ (T : Type 0). T) (λ i. IsIn (eu i) (ev i) (ew i) (er i)) h

-- the third weight is above zero where 4uw > v²
pub third_strictly : (u v w : ℤ) → pos 0 <ℤ u → pos 0 <ℤ gap_of u v w → pos 0 <ℤ w
third_strictly u v w h g = grind (arith, signed_linear, h, g, by_lt_z, third_above, square_at_least_zero)

in_from_test : (u v w : ℤ) (r : Bool) → (is_inside u v w || (is_on_chord u v w && r)) ≡ true → IsIn u v w r
in_from_test u v w r h = grind (arith, signed_linear, h, by_lt_z, third_strictly)

test_from_in : (u v w : ℤ) (r : Bool) → IsIn u v w r → (is_inside u v w || (is_on_chord u v w && r)) ≡ true
test_from_in u v w r h = grind (arith, signed_linear, h)

-- in the region or not
pub region_cases : (a b c p : Place) → IsInRegion a b c p ⊎ (¬ (IsInRegion a b c p))
region_cases a b c p = by (is_in_region a b c p) refl
  where
    by : (t : Bool) → is_in_region a b c p ≡ t → IsInRegion a b c p ⊎ (¬ (IsInRegion a b c p))
    by true e = inl (in_from_test (weight_a a b c p) (weight_b a b c p) (weight_c a b c p) (is_right_of_chord a b c) e)
    by false e =
        inr (λ k. clash _ e (test_from_in (weight_a a b c p) (weight_b a b c p) (weight_c a b c p) (is_right_of_chord a b c) k))

-- in its region an arc counts by the sign of its area
pub region_in : (a b c p : Place) → IsInRegion a b c p → region_part a (Some b) c p ≡ sign (area a b c)
region_in a b c p h = ap (λ t. if t then sign (area a b c) else pos 0)
    (test_from_in (weight_a a b c p) (weight_b a b c p) (weight_c a b c p) (is_right_of_chord a b c) h)

-- and outside it not at all
pub region_out : (a b c p : Place) → ¬ (IsInRegion a b c p) → region_part a (Some b) c p ≡ pos 0
region_out a b c p n = by (is_in_region a b c p) refl
  where
    by : (t : Bool) → is_in_region a b c p ≡ t → (if t then sign (area a b c) else pos 0) ≡ pos 0
    by false e = refl
    by true e = absurd (n (in_from_test (weight_a a b c p) (weight_b a b c p) (weight_c a b c p) (is_right_of_chord a b c) e))

pub sign_above : (z : ℤ) → pos 0 <ℤ z → sign z ≡ pos 1
sign_above z h = grind (arith, signed_linear, h)

-- a flat arc has no region, and its chord and those of its halves cross alike
pub flat_region : (a b c p : Place) → area a b c ≡ pos 0 → region_part a (Some b) c p ≡ pos 0
flat_region a b c p h = ap (λ s. if is_in_region a b c p then s else pos 0) (ap sign h) ∙ by (is_in_region a b c p)
  where
    by : (t : Bool) → (if t then pos 0 else pos 0) ≡ pos 0
    by true = refl
    by false = refl
