-- A piece that is moved covers the places that it covered, moved with it: `shift_moves_cover`.
-- Serves the laws `shift` and `meeting`.
use Rattle.std.proofs.Common.{◌≡◌, refl, ap, ◌∙◌, subst, ◌↔◌, ◌⊎◌, inl, inr, ℤ, pos, ◌+ℤ◌, ◌-ℤ◌, ◌*ℤ◌, neg_ℤ, ◌≤ℤ◌, int_lt}
use Rattle.std.proofs.Common.{◌&&◌, ◌||◌, [], ◌∷◌, Option, Some, None, map, option_map, arith}
use Rattle.std.specs.Ordering.{int_eq}
use Rattle.std.proofs.lemmas.Int.{ints}
use Rattle.fx_fixed.specs.Polynomial.{var, num, ◌⊞◌, ◌⊠◌, ◌⊟◌}
use Rattle.fx_fixed.proofs.Ring.{ring}
use Rattle.fx_fixed.proofs.Linear.{signed_linear}
use Rattle.fx_winding.specs.Area.{Place, area}
use Rattle.fx_winding.specs.Winding.{sign, is_right_of_chord, chord_crossing, region_part, IsOnPart, IsBetween, IsInRange}
use Rattle.fx_winding.specs.Winding.{IsAboveLow, IsBelowHigh, Span, IsBeforeTurn, IsOn, IsCovered, centre}
use Rattle.fx_winding.specs.Moves.{shifted_place, shifted, ShiftMovesCover, ShiftMovesBits}
use Rattle.fx_winding.proofs.Crossings.{crossing_number}
use Rattle.fx_winding.proofs.Triangle.{area_expr, at, coordinates, area_at}
use Rattle.fx_winding.proofs.Covers.{covered_map}

pub area_shift : (x y : ℤ) (a b c : Place) → area (shifted_place x y a) (shifted_place x y b) (shifted_place x y c) ≡ area a b c
area_shift x y a b c = ring (coordinates (a ∷ b ∷ c ∷ []) (x ∷ y ∷ []))
    (area_expr (var 0 ⊞ var 6) (var 1 ⊞ var 7) (var 2 ⊞ var 6) (var 3 ⊞ var 7) (var 4 ⊞ var 6) (var 5 ⊞ var 7))
    (area_at (at 0) (at 1) (at 2)) tt

crossing_number_shift : (t ay cy py s : ℤ) → crossing_number (ay +ℤ t) (cy +ℤ t) (py +ℤ t) s ≡ crossing_number ay cy py s
crossing_number_shift t ay cy py s = grind (arith, ints)

pub crossing_shift : (x y : ℤ) (a c p : Place)
    → chord_crossing (shifted_place x y a) (shifted_place x y c) (shifted_place x y p) ≡ chord_crossing a c p
crossing_shift x y a c p =
    ap (crossing_number (a.y +ℤ y) (c.y +ℤ y) (p.y +ℤ y)) (area_shift x y a c p) ∙ crossing_number_shift y a.y c.y p.y (area a c p)

-- ---- the weights and the region
sign_shift : (x y : ℤ) (a b c : Place)
    → sign (area (shifted_place x y a) (shifted_place x y b) (shifted_place x y c)) ≡ sign (area a b c)
sign_shift x y a b c = ap sign (area_shift x y a b c)

weight_shift : (x y : ℤ) (a b c p q r : Place) → sign (area (shifted_place x y a) (shifted_place x y b) (shifted_place x y c))
    *ℤ area (shifted_place x y p) (shifted_place x y q) (shifted_place x y r) ≡ sign (area a b c) *ℤ area p q r
weight_shift x y a b c p q r = λ i. sign_shift x y a b c i *ℤ area_shift x y p q r i

right_shift : (x y : ℤ) (a b c : Place)
    → is_right_of_chord (shifted_place x y a) (shifted_place x y b) (shifted_place x y c) ≡ is_right_of_chord a b c
right_shift x y a b c = tests (area (shifted_place x y a) (shifted_place x y b) (shifted_place x y c) *ℤ ((c.y +ℤ y) -ℤ (a.y +ℤ y)))
    (area a b c *ℤ (c.y -ℤ a.y)) a.y b.y c.y y same
  where
    same : area (shifted_place x y a) (shifted_place x y b) (shifted_place x y c) *ℤ ((c.y +ℤ y) -ℤ (a.y +ℤ y)) ≡ area a b c *ℤ
        (c.y -ℤ a.y)
    same = ap (λ z. z *ℤ ((c.y +ℤ y) -ℤ (a.y +ℤ y))) (area_shift x y a b c)
        ∙ ring (area a b c ∷ a.y ∷ c.y ∷ y ∷ []) (var 0 ⊠ ((var 2 ⊞ var 3) ⊟ (var 1 ⊞ var 3))) (var 0 ⊠ (var 2 ⊟ var 1)) tt

    tests : (d d' ay b cy t : ℤ) → d ≡ d'
        → (int_lt (pos 0) d || (int_eq (ay +ℤ t) (cy +ℤ t) && int_lt (ay +ℤ t) (b +ℤ t))) ≡ (int_lt (pos 0) d' ||
        (int_eq ay cy && int_lt ay b))
    tests d d' ay b cy t e = grind (arith, ints)

pub region_part_shift : (x y : ℤ) (a : Place) (b : Option Place) (c p : Place)
    → region_part (shifted_place x y a) (option_map (shifted_place x y) b) (shifted_place x y c) (shifted_place x y p) ≡ region_part
    a b c p
region_part_shift x y a b c p = grind (arith, signed_linear, weight_shift, right_shift, sign_shift)

-- ---- on a piece
between_shift : (t a c p : ℤ) → IsBetween a c p → IsBetween (a +ℤ t) (c +ℤ t) (p +ℤ t)
between_shift t a c p h = grind (arith, signed_linear)

turn_shift : (t a b c p : ℤ) → IsBeforeTurn (a +ℤ t) (b +ℤ t) (c +ℤ t) (p +ℤ t) ↔ IsBeforeTurn a b c p
turn_shift t a b c p =
    let e : (p +ℤ t) *ℤ ((a +ℤ t) -ℤ pos 2 *ℤ (b +ℤ t) +ℤ (c +ℤ t)) -ℤ ((a +ℤ t) *ℤ (c +ℤ t) -ℤ (b +ℤ t) *ℤ (b +ℤ t)) ≡ p *ℤ
    (a -ℤ pos 2 *ℤ b +ℤ c) -ℤ (a *ℤ c -ℤ b *ℤ b) =
    ring (a ∷ b ∷ c ∷ p ∷ t ∷ [])
    ((var 3 ⊞ var 4) ⊠ ((var 0 ⊞ var 4) ⊟ num (pos 2) ⊠ (var 1 ⊞ var 4) ⊞ (var 2 ⊞ var 4)) ⊟
    ((var 0 ⊞ var 4) ⊠ (var 2 ⊞ var 4) ⊟ (var 1 ⊞ var 4) ⊠ (var 1 ⊞ var 4)))
    (var 3 ⊠ (var 0 ⊟ num (pos 2) ⊠ var 1 ⊞ var 2) ⊟ (var 0 ⊠ var 2 ⊟ var 1 ⊠ var 1)) tt in
    same_order ((p +ℤ t) *ℤ ((a +ℤ t) -ℤ pos 2 *ℤ (b +ℤ t) +ℤ (c +ℤ t))) ((a +ℤ t) *ℤ (c +ℤ t) -ℤ (b +ℤ t) *ℤ (b +ℤ t))
    (p *ℤ (a -ℤ pos 2 *ℤ b +ℤ c)) (a *ℤ c -ℤ b *ℤ b) e
  where
    same_order : (m n m' n' : ℤ) → m -ℤ n ≡ m' -ℤ n' → (n ≤ℤ m) ↔ (n' ≤ℤ m')
    same_order m n m' n' e = (λ h. omega (arith, signed_linear), λ h. omega (arith, signed_linear))

-- a quadratic comes down to a value in one of three ways; each follows its facts
pub either : {A B C D E A' B' C' D' E' : Type 0} → A ↔ A' → B ↔ B' → C ↔ C' → D ↔ D' → E ↔ E'
    → (A ⊎ (B ⊎ (C × D × E))) ↔ (A' ⊎ (B' ⊎ (C' × D' × E')))
either a b c d e = (λ h. grind arith, λ h. grind arith)

pub low_shift : (t a b c p : ℤ) → IsAboveLow (a +ℤ t) (b +ℤ t) (c +ℤ t) (p +ℤ t) ↔ IsAboveLow a b c p
low_shift t a b c p = either (omega (arith, signed_linear)) (omega (arith, signed_linear)) (omega (arith, signed_linear))
    (omega (arith, signed_linear)) (turn_shift t a b c p)

pub high_shift : (t a b c p : ℤ) → IsBelowHigh (a +ℤ t) (b +ℤ t) (c +ℤ t) (p +ℤ t) ↔ IsBelowHigh a b c p
high_shift t a b c p = either (omega (arith, signed_linear)) (omega (arith, signed_linear)) (omega (arith, signed_linear))
    (omega (arith, signed_linear)) (turn_shift t a b c p)

range_shift : (t a b c p : ℤ) → IsInRange a b c p → IsInRange (a +ℤ t) (b +ℤ t) (c +ℤ t) (p +ℤ t)
range_shift t a b c p r = record { low = (low_shift t a b c p).1 r.low; high = (high_shift t a b c p).1 r.high }

on_part_shift : (x y : ℤ) (a : Place) (b : Option Place) (c p : Place) → IsOnPart a b c p
    → IsOnPart (shifted_place x y a) (option_map (shifted_place x y) b) (shifted_place x y c) (shifted_place x y p)
on_part_shift x y a None c p on = grind (arith, signed_linear, on, area_shift, between_shift)
on_part_shift x y a (Some b) c p (inl on) = grind (arith, signed_linear, area_shift, weight_shift)
on_part_shift x y a (Some b) c p (inr on) = inr (record {
  flat = area_shift x y a b c ∙ on.flat;
  with_ab = area_shift x y a b p ∙ on.with_ab;
  with_bc = area_shift x y b c p ∙ on.with_bc;
  with_ac = area_shift x y a c p ∙ on.with_ac;
  range_x = range_shift x a.x b.x c.x p.x on.range_x;
  range_y = range_shift y a.y b.y c.y p.y on.range_y;
})

-- ---- moved back
place_back : (x y : ℤ) (p : Place) → shifted_place (neg_ℤ x) (neg_ℤ y) (shifted_place x y p) ≡ p
place_back x y p = λ i. record { x = back p.x x i; y = back p.y y i }
  where
    back : (z t : ℤ) → (z +ℤ t) +ℤ neg_ℤ t ≡ z
    back z t = omega (arith, signed_linear)

span_back : (x y : ℤ) (s : Span) → shifted (neg_ℤ x) (neg_ℤ y) (shifted x y s) ≡ s
span_back x y s = grind (arith, signed_linear, place_back)

-- what holds of places and of a piece, all moved and moved back, holds of them
pub unshifted : (P : Place → Place → Span → Type 0) (x y : ℤ) (p q : Place) (s : Span)
    → P (shifted_place (neg_ℤ x) (neg_ℤ y) (shifted_place x y p)) (shifted_place (neg_ℤ x) (neg_ℤ y) (shifted_place x y q))
    (shifted (neg_ℤ x) (neg_ℤ y) (shifted x y s)) → P p q s
unshifted P x y p q s h = subst (λ (T : Type 0). T) (λ i. P (place_back x y p i) (place_back x y q i) (span_back x y s i)) h

on_shift : (x y : ℤ) (p : Place) (s : Span) → IsOn (shifted_place x y p) (shifted x y s) ↔ IsOn p s
on_shift x y p s = (
  λ h. unshifted (λ p q s. IsOn p s) x y p p s (on_part_shift (neg_ℤ x) (neg_ℤ y) (shifted x y s).a (shifted x y s).b
      (shifted x y s).c (shifted_place x y p) h),
  on_part_shift x y s.a s.b s.c p,
)

-- ---- all pieces of a list
pub shift_moves_cover : ShiftMovesCover
shift_moves_cover x y p ss =
    covered_map p (shifted_place x y p) (shifted x y) (λ z. z) (λ m n. refl) refl (λ z e. e) (on_shift x y p)
    (λ s. crossing_shift x y s.a s.c p) (λ s. region_part_shift x y s.a s.b s.c p) ss

-- along an axis
centre_along : (i k : ℤ) → (pos 128 *ℤ i +ℤ pos 64) +ℤ pos 128 *ℤ k ≡ pos 128 *ℤ (i +ℤ k) +ℤ pos 64
centre_along i k = grind (arith, signed_linear)

pub centre_shift : (k l i j : ℤ) → shifted_place (pos 128 *ℤ k) (pos 128 *ℤ l) (centre i j) ≡ centre (i +ℤ k) (j +ℤ l)
centre_shift k l i j = λ t. record { x = centre_along i k t; y = centre_along j l t }

pub shift_moves_bits : ShiftMovesBits
shift_moves_bits k l i j ss = subst (λ q. IsCovered q (map (shifted (pos 128 *ℤ k) (pos 128 *ℤ l)) ss) ↔ IsCovered (centre i j) ss)
    (centre_shift k l i j) (shift_moves_cover (pos 128 *ℤ k) (pos 128 *ℤ l) (centre i j) ss)
