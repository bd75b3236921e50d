-- If places are moved so that each area changes its sign, a moved piece and the piece add up to fixed numbers: `add_up_line`,
-- `add_up_arc`.
-- Serves pieces with their coordinates exchanged, and the laws of `fx_symmetry`.
use Rattle.std.proofs.Common.{◌≡◌, ◌≢◌, refl, sym, ap, ◌∙◌, ◌⊎◌, inl, inr, ℤ, pos, ◌+ℤ◌, ◌-ℤ◌, ◌*ℤ◌}
use Rattle.std.proofs.Common.{neg_ℤ, Option, Some, None, option_map, Bool, arith}
use Rattle.std.proofs.lemmas.Int.{ints}
use Rattle.fx_fixed.proofs.Ring.{one-*ℤ, neg-*ℤ}
use Rattle.fx_fixed.proofs.Linear.{signed_linear}
use Rattle.fx_winding.specs.Area.{Place, area}
use Rattle.fx_winding.specs.Winding.{sign, weight_b, is_right_of_chord, chord_crossing, region_part}
use Rattle.fx_winding.proofs.Crossings.{crossing_number}
use Rattle.fx_winding.proofs.Products.{by_zero}
use Rattle.fx_winding.proofs.Regions.{IsIn, IsInRegion, flat_region, move_in, region_cases, region_in, region_out}
use Rattle.fx_winding.proofs.Reversal.{both_minus, sign_back}
use Rattle.fx_winding.proofs.Triangle.{area_swap}

-- each area changes its sign
pub record Reflects (r : Place → Place) : Type 0 where
  pub area_is : (p q s : Place) → area (r p) (r q) (r s) ≡ neg_ℤ (area p q s)

-- ---- weights
pub sign_reflected : (r : Place → Place) → Reflects r → (a b c : Place) → sign (area (r a) (r b) (r c)) ≡ neg_ℤ (sign (area a b c))
sign_reflected r f a b c = ap sign (f.area_is a b c) ∙ sign_back (area a b c)

-- they are the same
pub weight_reflected : (r : Place → Place) → Reflects r → (a b c p q s : Place)
    → sign (area (r a) (r b) (r c)) *ℤ area (r p) (r q) (r s) ≡ sign (area a b c) *ℤ area p q s
weight_reflected r f a b c p q s = (λ i. sign_reflected r f a b c i *ℤ f.area_is p q s i)
    ∙ both_minus (sign (area a b c)) (area p q s)

pub none_reflected : (r : Place → Place) → Reflects r → (p q s : Place) → area p q s ≡ pos 0 → area (r p) (r q) (r s) ≡ pos 0
none_reflected r f p q s z = f.area_is p q s ∙ ap neg_ℤ z

-- ---- regions
-- off the chord's line the control point's weight is not 0
middle_apart : (a b c p : Place) → area a b c ≢ pos 0 → area a c p ≢ pos 0 → weight_b a b c p ≢ pos 0
middle_apart a b c p n m e = grind (arith, signed_linear, n, m, e, area_swap, one-*ℤ, neg-*ℤ)

-- both regions cancel where the place is in both or in none
pub regions_cancel : (r : Place → Place) → Reflects r → (a b c p : Place)
    → (IsInRegion a b c p → IsInRegion (r a) (r b) (r c) (r p))
    → (IsInRegion (r a) (r b) (r c) (r p) → IsInRegion a b c p)
    → region_part (r a) (Some (r b)) (r c) (r p) +ℤ region_part a (Some b) c p ≡ pos 0
regions_cancel r f a b c p to from = elim (region_cases a b c p) [
  | inl h ↦ omega (arith, signed_linear, region_in (r a) (r b) (r c) (r p) (to h), sign_reflected r f a b c, region_in a b c p h)
  | inr n ↦ λ i. region_out (r a) (r b) (r c) (r p) (λ h. n (from h)) i +ℤ region_out a b c p n i
]

-- which they are where the control point's weight is not 0, or the arc lies on the same side of its chord
abbrev IsAlike : (Place → Place) → Place → Place → Place → Place → Type 0
IsAlike r a b c p = (weight_b a b c p ≢ pos 0) ⊎ (is_right_of_chord (r a) (r b) (r c) ≡ is_right_of_chord a b c)

off_chord : {u v w : ℤ} {r r' : Bool} → v ≢ pos 0 → IsIn u v w r → IsIn u v w r'
off_chord n (inl k) = inl k
off_chord n (inr k) = absurd (n k.0)

region_to : (r : Place → Place) → Reflects r → (a b c p : Place) → IsAlike r a b c p → IsInRegion a b c p
    → IsInRegion (r a) (r b) (r c) (r p)
region_to r h a b c p i j = grind (arith, signed_linear, h, i, j, move_in, weight_reflected, off_chord)

region_from : (r : Place → Place) → Reflects r → (a b c p : Place) → IsAlike r a b c p → IsInRegion (r a) (r b) (r c) (r p)
    → IsInRegion a b c p
region_from r h a b c p i j = grind (arith, signed_linear, h, i, j, move_in, weight_reflected, off_chord)

pub regions_alike : (r : Place → Place) → Reflects r → (a b c p : Place) → IsAlike r a b c p
    → region_part (r a) (Some (r b)) (r c) (r p) +ℤ region_part a (Some b) c p ≡ pos 0
regions_alike r f a b c p s = regions_cancel r f a b c p (region_to r f a b c p s) (region_from r f a b c p s)

-- ---- the whole
-- a moved piece and the piece add k in all
abbrev pub AddUp : (Place → Place) → ℤ → Place → Option Place → Place → Place → Type 0
AddUp r k a b c p = chord_crossing (r a) (r c) (r p) +ℤ region_part (r a) (option_map r b) (r c) (r p)
    ≡ k -ℤ (chord_crossing a c p +ℤ region_part a b c p)

-- so do the crossings off the chord's line
abbrev pub CrossingsAddUp : (Place → Place) → ℤ → Place → Place → Place → Type 0
CrossingsAddUp r k a c p = area a c p ≢ pos 0 → chord_crossing (r a) (r c) (r p) +ℤ chord_crossing a c p ≡ k

-- on it both are 0
pub reflected_crossings_none : (r : Place → Place) → Reflects r → (a c p : Place) → area a c p ≡ pos 0
    → chord_crossing (r a) (r c) (r p) +ℤ chord_crossing a c p ≡ pos 0
reflected_crossings_none r f a c p z =
    λ i. (ap (crossing_number (r a).y (r c).y (r p).y) (none_reflected r f a c p z) ∙ none (r a).y (r c).y (r p).y) i
    +ℤ (ap (crossing_number a.y c.y p.y) z ∙ none a.y c.y p.y) i
  where
    none : (a c p : ℤ) → crossing_number a c p (pos 0) ≡ pos 0
    none a c p = grind (arith, ints)

add_up_off : (r : Place → Place) (k : ℤ) (a : Place) (b : Option Place) (c p : Place)
    → chord_crossing (r a) (r c) (r p) +ℤ chord_crossing a c p ≡ k
    → region_part (r a) (option_map r b) (r c) (r p) +ℤ region_part a b c p ≡ pos 0 → AddUp r k a b c p
add_up_off r k a b c p e f = omega (arith, signed_linear, e, f)

add_up_on : (r : Place → Place) → Reflects r → (k : ℤ) (a : Place) (b : Option Place) (c p : Place) → area a c p ≡ pos 0
    → region_part (r a) (option_map r b) (r c) (r p) +ℤ region_part a b c p ≡ k → AddUp r k a b c p
add_up_on r f k a b c p z e = omega (arith, signed_linear, e, reflected_crossings_none r f a c p z)

-- a line
pub add_up_line : (r : Place → Place) → Reflects r → (k : ℤ) (a c p : Place) → CrossingsAddUp r k a c p
    → (area a c p ≡ pos 0 → k ≡ pos 0) → AddUp r k a None c p
add_up_line r f k a c p off on = by_zero (area a c p) (λ z. add_up_on r f k a None c p z (sym (on z)))
    (λ n. add_up_off r k a None c p (off n) refl)

-- an arc whose points are on one line
add_up_flat : (r : Place → Place) → Reflects r → (k : ℤ) (a b c p : Place) → CrossingsAddUp r k a c p
    → (area a c p ≡ pos 0 → k ≡ pos 0) → area a b c ≡ pos 0 → AddUp r k a (Some b) c p
add_up_flat r f k a b c p off on flat = by_zero (area a c p)
    (λ z. add_up_on r f k a (Some b) c p z (none ∙ sym (on z))) (λ n. add_up_off r k a (Some b) c p (off n) none)
  where
    none : region_part (r a) (Some (r b)) (r c) (r p) +ℤ region_part a (Some b) c p ≡ pos 0
    none = λ i. flat_region (r a) (r b) (r c) (r p) (none_reflected r f a b c flat) i +ℤ flat_region a b c p flat i

-- any other arc
add_up_bent : (r : Place → Place) → Reflects r → (k : ℤ) (a b c p : Place) → CrossingsAddUp r k a c p → area a b c ≢ pos 0
    → (area a c p ≡ pos 0 → region_part (r a) (Some (r b)) (r c) (r p) +ℤ region_part a (Some b) c p ≡ k)
    → AddUp r k a (Some b) c p
add_up_bent r f k a b c p off n on = by_zero (area a c p) (λ z. add_up_on r f k a (Some b) c p z (on z))
    (λ m. add_up_off r k a (Some b) c p (off m) (regions_alike r f a b c p (inl (middle_apart a b c p n m))))

pub add_up_arc : (r : Place → Place) → Reflects r → (k : ℤ) (a b c p : Place) → CrossingsAddUp r k a c p
    → (area a b c ≡ pos 0 → area a c p ≡ pos 0 → k ≡ pos 0) → (area a b c ≢ pos 0 → area a c p ≡ pos 0
    → region_part (r a) (Some (r b)) (r c) (r p) +ℤ region_part a (Some b) c p ≡ k) → AddUp r k a (Some b) c p
add_up_arc r f k a b c p off flat bent = by_zero (area a b c) (λ z. add_up_flat r f k a b c p off (flat z) z)
    (λ n. add_up_bent r f k a b c p off n (bent n))
