-- Between its ends a line's area is 0 only at places between them: `between_x`.
-- Serves the centres on them.
use Rattle.std.proofs.Common.{◌↔◌, IsTrue, ◌≡◌, ◌≢◌, inl, inr, sym, ap, ◌∙◌, ℕ, ◌<◌, ℤ, pos, negsuc, ◌+ℤ◌}
use Rattle.std.proofs.Common.{◌-ℤ◌, ◌*ℤ◌, neg_ℤ, ◌≤ℤ◌, ◌<ℤ◌, [], ◌∷◌, Bool, Option, Some, None, arith}
use Rattle.std.proofs.lemmas.Int.{ints}
use Rattle.fx_fixed.specs.Polynomial.{Expr, var, ◌⊞◌, ◌⊠◌, minus, ◌⊟◌}
use Rattle.fx_fixed.proofs.Ring.{ring}
use Rattle.fx_fixed.proofs.Signs.{product_at_least_zero, square_at_least_zero}
use Rattle.fx_fixed.proofs.Order.{below_or_not_ℤ}
use Rattle.fx_fixed.proofs.Linear.{signed, signed_linear}
use Rattle.fx_winding.specs.Area.{Place, area, area_of}
use Rattle.fx_winding.specs.Winding.{Span, IsBetween, IsInRange, IsOnLine, IsOnPart, IsOn}
use Rattle.fx_rows.specs.declared.strip.Strip.{Strip}
use Rattle.fx_rows.specs.inner.Points.{IsInner}
use Rattle.fx_rows.specs.inner.Sides.{place_at, side, IsEdge}
use Rattle.fx_rows.proofs.Sides.{turned_area, sign_above, sign_below}
use Rattle.fx_rows.specs.Parts.{IsBent, IsBentPart}
use Rattle.fx_rows.proofs.Weights.{drop_factor, zero_factor, zero_square, above_from}
use Rattle.fx_rows.proofs.Cutting.{slanted}
use Rattle.fx_rows.proofs.Flats.{only_chord}

-- ---- over plain numbers: d t = r q with t between 0 and r
between_rest : (d q t r : ℤ) → pos 0 ≤ℤ d → pos 0 <ℤ t → t <ℤ r → d *ℤ t ≡ r *ℤ q → (pos 0 ≤ℤ q) × (q ≤ℤ d)
between_rest d q t r up some less e =
    let above : pos 0 <ℤ r = omega (arith, signed_linear) in
    let rest : pos 0 ≤ℤ (r -ℤ t) = omega (arith, signed_linear) in
    let one = product_at_least_zero d t up (omega (arith, signed_linear)) in
    let two = product_at_least_zero d (r -ℤ t) up rest in
    let split : r *ℤ (d -ℤ q) ≡ d *ℤ (r -ℤ t) +ℤ (d *ℤ t -ℤ r *ℤ q) =
    ring (d ∷ q ∷ t ∷ r ∷ []) (var 3 ⊠ (var 0 ⊟ var 1)) (var 0 ⊠ (var 3 ⊟ var 2) ⊞ (var 0 ⊠ var 2 ⊟ var 3 ⊠ var 1)) tt in
    let low = drop_factor r q above (omega (arith, signed_linear, one, e)) in
    let high = drop_factor r (d -ℤ q) above (omega (arith, signed_linear, two, split, e)) in
    (low, omega (arith, signed_linear, high))

turned_product : (d t : ℤ) → neg_ℤ d *ℤ t ≡ neg_ℤ (d *ℤ t)
turned_product d t = ring (d ∷ t ∷ []) (minus (var 0) ⊠ var 1) (minus (var 0 ⊠ var 1)) tt

product_turned : (r q : ℤ) → r *ℤ neg_ℤ q ≡ neg_ℤ (r *ℤ q)
product_turned r q = ring (r ∷ q ∷ []) (var 0 ⊠ minus (var 1)) (minus (var 0 ⊠ var 1)) tt

between_part : (ax cx px t r : ℤ) → pos 0 <ℤ t → t <ℤ r → (cx -ℤ ax) *ℤ t ≡ r *ℤ (px -ℤ ax) → IsBetween ax cx px
between_part ax cx px t r some less e = elim (below_or_not_ℤ cx ax) [
  | inr h ↦
      let b = between_rest (cx -ℤ ax) (px -ℤ ax) t r (omega (arith, signed_linear)) some less e in
      inl (omega (arith, signed_linear, b.0), omega (arith, signed_linear, b.1))
  | inl h ↦
      let b = between_rest (neg_ℤ (cx -ℤ ax)) (neg_ℤ (px -ℤ ax)) t r (omega (arith, signed_linear)) some less
      (turned_product (cx -ℤ ax) t ∙ ap neg_ℤ e ∙ sym (product_turned r (px -ℤ ax))) in
      inr (omega (arith, signed_linear, b.1), omega (arith, signed_linear, b.0))
]

-- ---- of a place on the chord's line
rising_area : (ax ay cx cy px py : ℤ)
    → (cx -ℤ ax) *ℤ (py -ℤ ay) ≡ (cy -ℤ ay) *ℤ (px -ℤ ax) +ℤ area_of ax ay cx cy px py
rising_area ax ay cx cy px py =
    let a = var 0 in let a' = var 1 in
    let c = var 2 in let c' = var 3 in
    let p = var 4 in let p' = var 5 in
    ring (ax ∷ ay ∷ cx ∷ cy ∷ px ∷ py ∷ []) ((c ⊟ a) ⊠ (p' ⊟ a'))
    ((c' ⊟ a') ⊠ (p ⊟ a) ⊞ ((c ⊟ a) ⊠ (p' ⊟ a') ⊟ (c' ⊟ a') ⊠ (p ⊟ a))) tt

falling_area : (ax ay cx cy px py : ℤ)
    → (cx -ℤ ax) *ℤ (ay -ℤ py) ≡ (ay -ℤ cy) *ℤ (px -ℤ ax) -ℤ area_of ax ay cx cy px py
falling_area ax ay cx cy px py =
    let a = var 0 in let a' = var 1 in
    let c = var 2 in let c' = var 3 in
    let p = var 4 in let p' = var 5 in
    ring (ax ∷ ay ∷ cx ∷ cy ∷ px ∷ py ∷ []) ((c ⊟ a) ⊠ (a' ⊟ p'))
    ((a' ⊟ c') ⊠ (p ⊟ a) ⊟ ((c ⊟ a) ⊠ (p' ⊟ a') ⊟ (c' ⊟ a') ⊠ (p ⊟ a))) tt

no_more : (x y z : ℤ) → x ≡ y +ℤ z → z ≡ pos 0 → x ≡ y
no_more x y z e n = omega (arith, signed_linear)

no_less : (x y z : ℤ) → x ≡ y -ℤ z → z ≡ pos 0 → x ≡ y
no_less x y z e n = omega (arith, signed_linear)

between_x : (ax ay cx cy px py : ℤ) → IsInner ay cy py → area_of ax ay cx cy px py ≡ pos 0 → IsBetween ax cx px
between_x ax ay cx cy px py (inl h) z =
    between_part ax cx px (py -ℤ ay) (cy -ℤ ay) (omega (arith, signed_linear, h.0)) (omega (arith, signed_linear, h.1))
    (no_more _ _ _ (rising_area ax ay cx cy px py) z)
between_x ax ay cx cy px py (inr h) z =
    between_part ax cx px (ay -ℤ py) (ay -ℤ cy) (omega (arith, signed_linear, h.1)) (omega (arith, signed_linear, h.0))
    (no_less _ _ _ (falling_area ax ay cx cy px py) z)

between_y : (a c y : ℤ) → IsInner a c y → IsBetween a c y
between_y a c y (inl h) = inl (omega (arith, signed_linear, h.0), omega (arith, signed_linear, h.1))
between_y a c y (inr h) = inr (omega (arith, signed_linear, h.0), omega (arith, signed_linear, h.1))

from_turned : (z y : ℤ) → z ≡ neg_ℤ y → z ≡ pos 0 → y ≡ pos 0
from_turned z y e n = omega (arith, signed_linear)

one_zero : (s z : ℤ) → s ≡ pos 1 → s *ℤ z ≡ pos 0 → z ≡ pos 0
one_zero s z e n = let k : pos 1 *ℤ z ≡ pos 0 = sym (ap (λ t. t *ℤ z) e) ∙ n in omega (arith, signed)

minus_zero : (s z : ℤ) → s ≡ negsuc 0 → s *ℤ z ≡ pos 0 → z ≡ pos 0
minus_zero s z e n = let k : negsuc 0 *ℤ z ≡ pos 0 = sym (ap (λ t. t *ℤ z) e) ∙ n in omega (arith, signed)

area_zero : (a c p : Place) → IsInner a.y c.y p.y → side a c p ≡ pos 0 → area a c p ≡ pos 0
area_zero a c p inner z = from_turned (area a p c) (area a c p) (turned_area a.x a.y p.x p.y c.x c.y) (by inner)
  where
    by : IsInner a.y c.y p.y → area a p c ≡ pos 0
    by (inl h) = one_zero _ _ (sign_above (c.y -ℤ a.y) (omega (arith, signed_linear, h.0, h.1))) z
    by (inr h) = minus_zero _ _ (sign_below (c.y -ℤ a.y) (omega (arith, signed_linear, h.0, h.1))) z

on_between_ends : (a c p : Place) → IsInner a.y c.y p.y → side a c p ≡ pos 0 → IsOnLine a c p
on_between_ends a c p inner z = grind (arith, signed_linear, inner, z, area_zero, between_x, between_y)

-- ---- of an arc whose points are on one line
side_rising : (ax ay bx by cx cy px py : ℤ)
    → (cy -ℤ ay) *ℤ area_of ax ay bx by px py ≡ (by -ℤ ay) *ℤ area_of ax ay cx cy px py +ℤ (py -ℤ ay) *ℤ area_of ax ay bx by cx cy
side_rising ax ay bx by cx cy px py =
    let f : Expr → Expr → Expr → Expr → Expr = λ x x' y y'. (x ⊟ var 0) ⊠ (y' ⊟ var 1) ⊟ (x' ⊟ var 1) ⊠ (y ⊟ var 0) in
    ring (ax ∷ ay ∷ bx ∷ by ∷ cx ∷ cy ∷ px ∷ py ∷ []) ((var 5 ⊟ var 1) ⊠ f (var 2) (var 3) (var 6) (var 7))
    ((var 3 ⊟ var 1) ⊠ f (var 4) (var 5) (var 6) (var 7) ⊞ (var 7 ⊟ var 1) ⊠ f (var 2) (var 3) (var 4) (var 5)) tt

other_side : (ax ay bx by cx cy px py : ℤ)
    → area_of bx by cx cy px py ≡ area_of ax ay bx by cx cy +ℤ area_of ax ay cx cy px py -ℤ area_of ax ay bx by px py
other_side ax ay bx by cx cy px py =
    let f : Expr → Expr → Expr → Expr → Expr → Expr → Expr = λ z z' x x' y y'. (x ⊟ z) ⊠ (y' ⊟ z') ⊟ (x' ⊟ z') ⊠ (y ⊟ z) in
    ring (ax ∷ ay ∷ bx ∷ by ∷ cx ∷ cy ∷ px ∷ py ∷ []) (f (var 2) (var 3) (var 4) (var 5) (var 6) (var 7))
    (f (var 0) (var 1) (var 2) (var 3) (var 4) (var 5) ⊞ f (var 0) (var 1) (var 4) (var 5) (var 6) (var 7) ⊟
    f (var 0) (var 1) (var 2) (var 3) (var 6) (var 7)) tt

no_parts : (x y z t : ℤ) → y ≡ pos 0 → t ≡ pos 0 → x *ℤ y +ℤ z *ℤ t ≡ pos 0
no_parts x y z t ey et = (λ i. x *ℤ ey i +ℤ z *ℤ et i) ∙ omega (arith, ints)

-- a product is 0 with one factor that is not
factor_zero : (d z : ℤ) → d ≢ pos 0 → d *ℤ z ≡ pos 0 → z ≡ pos 0
factor_zero d z n e = grind (arith, signed_linear, n, e, zero_square, zero_factor, above_from, square_at_least_zero)

in_range : (a b c p : ℤ) → IsBetween a c p → IsInRange a b c p
in_range a b c p (inl h) = record { low = inl h.0; high = inr (inl h.1) }
in_range a b c p (inr h) = record { low = inr (inl h.0); high = inl h.1 }

not_apart : (z : ℤ) → ¬ (z ≢ pos 0) → z ≡ pos 0
not_apart z h = grind (arith, signed_linear, h)

-- between its ends such a piece has each centre on the line through its ends
on_straight : (a : Place) (b : Option Place) (c p : Place) → ¬ (IsBentPart a b c) → IsInner a.y c.y p.y → side a c p ≡ pos 0
    → IsOnPart a b c p
on_straight a None c p n inner z = on_between_ends a c p inner z
on_straight a (Some b) c p n inner z =
    let flat = not_apart (area a b c) n in
    let ac = area_zero a c p inner z in
    let ab = factor_zero (c.y -ℤ a.y) (area a b p) (λ e. slanted a.y c.y p.y inner (omega (arith, signed_linear, e)))
    (side_rising a.x a.y b.x b.y c.x c.y p.x p.y ∙ no_parts _ _ _ _ ac flat) in
    let bc = other_side a.x a.y b.x b.y c.x c.y p.x p.y in
    inr (record {
      flat = flat;
      with_ab = ab;
      with_bc = omega (arith, signed_linear, bc, flat, ac, ab);
      with_ac = ac;
      range_x = in_range a.x b.x c.x p.x (between_x a.x a.y c.x c.y p.x p.y inner ac);
      range_y = in_range a.y b.y c.y p.y (between_y a.y c.y p.y inner);
    })

pub straight_met : (s : Span) (strip : Strip) (edge : ℕ) (met : Bool) → ¬ (IsBent s)
    → IsInner s.a.y s.c.y (pos 128 *ℤ strip.row +ℤ pos 64) → IsEdge s.a s.c strip edge
    → IsTrue met ↔ (side s.a s.c (place_at strip edge) ≡ pos 0) → (k : ℕ) → k < strip.stop
    → IsOn (place_at strip k) s ↔ ((k ≡ edge) × IsTrue met)
straight_met s strip edge met straight inner e m k l = (
  λ on. only_chord s strip edge met straight (slanted _ _ _ inner) e m k l on,
  λ x. on_straight s.a s.b s.c (place_at strip k) straight inner (ap (λ t. side s.a s.c (place_at strip t)) x.0 ∙ m.0 x.1),
)
