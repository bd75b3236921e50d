-- A stretched piece has the stretched places on it, and adds at them what the piece adds: `on_stretched`, `crossing_stretched`,
-- `region_stretched`.
-- Serves `nearer`.
use Rattle.std.proofs.Common.{◌≡◌, ◌↔◌, refl, ap, ◌∙◌, ℕ, ℤ, pos, ◌+ℤ◌, ◌-ℤ◌, ◌*ℤ◌, ◌≤ℤ◌, ◌<ℤ◌}
use Rattle.std.proofs.Common.{int_lt, ◌&&◌, ◌||◌, Option, Some, None, [], ◌∷◌, option_map, w32, to_z, of_z, arith}
use Rattle.std.specs.Ordering.{int_eq}
use Rattle.std.proofs.Math.Logic.{⊎_map}
use Rattle.std.proofs.lemmas.Int.{ints}
use Rattle.fx_fixed.specs.Polynomial.{Expr, var, num, ◌⊞◌, ◌⊠◌, ◌⊟◌}
use Rattle.fx_fixed.proofs.Ring.{ring}
use Rattle.fx_fixed.proofs.Linear.{signed, signed_linear}
use Rattle.fx_winding.specs.Area.{Place, area, gap_of}
use Rattle.fx_winding.specs.Winding.{Span, IsOn, IsOnPart, IsBetween, IsBeforeTurn, IsInRange, AreOnArc, IsOnCurve}
use Rattle.fx_winding.specs.Winding.{IsOnFlatArc, sign, weight_a, weight_b, weight_c, crossing, region, region_part, is_inside, is_on_chord}
use Rattle.fx_winding.specs.Winding.{is_right_of_chord, centre}
use Rattle.fx_winding.proofs.Crossings.{crossing_number}
use Rattle.fx_winding.proofs.Shifts.{either}
use Rattle.fx_winding.proofs.Triangle.{area_expr, at, coordinates, area_at}
use Rattle.fx_dropout.specs.Dropout.{place_on}
use Rattle.fx_dropout.specs.inner.Stretched.{stretched_x, stretched_place, stretched_span}

-- a number of 32 bits as the code holds it
abbrev pub held : ℤ → ℤ
held x = to_z w32 (of_z w32 x)

-- a place of a segment becomes a centre
pub centre_stretched : (col row : ℤ) (n : ℕ) → stretched_place col (place_on col row n) ≡ centre (pos n) row
centre_stretched col row n = λ i. record { x = along i; y = pos 128 *ℤ row +ℤ pos 64 }
  where
    along : stretched_x col ((pos 128 *ℤ col +ℤ pos 64) +ℤ pos n) ≡ pos 128 *ℤ pos n +ℤ pos 64
    along = omega (arith, signed)

-- ---- areas
-- a coordinate stretched about the column var 6
abbrev far : Expr → Expr
far x = num (pos 128) ⊠ (x ⊟ (num (pos 128) ⊠ var 6 ⊞ num (pos 64))) ⊞ num (pos 64)

area_stretched : (col : ℤ) (a b c : Place)
    → area (stretched_place col a) (stretched_place col b) (stretched_place col c) ≡ pos 128 *ℤ area a b c
area_stretched col a b c = ring (coordinates (a ∷ b ∷ c ∷ []) (col ∷ []))
    (area_expr (far (var 0)) (var 1) (far (var 2)) (var 3) (far (var 4)) (var 5)) (num (pos 128) ⊠ area_at (at 0) (at 1) (at 2)) tt

crossing_number_stretched : (ay cy py s : ℤ) → crossing_number ay cy py (pos 128 *ℤ s) ≡ crossing_number ay cy py s
crossing_number_stretched ay cy py s = grind (arith, ints)

pub crossing_stretched : (col : ℤ) (p : Place) (s : Span) → crossing (stretched_place col p) (stretched_span col s) ≡ crossing p s
crossing_stretched col p s = ap (crossing_number s.a.y s.c.y p.y) (area_stretched col s.a s.c p)
    ∙ crossing_number_stretched s.a.y s.c.y p.y (area s.a s.c p)

-- ---- weights
sign_stretched : (z : ℤ) → sign (pos 128 *ℤ z) ≡ sign z
sign_stretched z = grind (arith, ints, signed_linear)

weight_stretched : (col : ℤ) (a b c p q r : Place)
    → sign (area (stretched_place col a) (stretched_place col b) (stretched_place col c))
    *ℤ area (stretched_place col p) (stretched_place col q) (stretched_place col r) ≡ pos 128 *ℤ (sign (area a b c) *ℤ area p q r)
weight_stretched col a b c p q r =
    (λ i. sign (area_stretched col a b c i) *ℤ area_stretched col p q r i)
    ∙ ap (λ z. z *ℤ (pos 128 *ℤ area p q r)) (sign_stretched (area a b c))
    ∙ ring (sign (area a b c) ∷ area p q r ∷ []) (var 0 ⊠ (num (pos 128) ⊠ var 1)) (num (pos 128) ⊠ (var 0 ⊠ var 1)) tt

gap_stretched : (u v w : ℤ) → gap_of (pos 128 *ℤ u) (pos 128 *ℤ v) (pos 128 *ℤ w) ≡ pos 16384 *ℤ gap_of u v w
gap_stretched u v w = ring (u ∷ v ∷ w ∷ [])
    (num (pos 4) ⊠ ((num (pos 128) ⊠ var 0) ⊠ (num (pos 128) ⊠ var 2)) ⊟ (num (pos 128) ⊠ var 1) ⊠ (num (pos 128) ⊠ var 1))
    (num (pos 16384) ⊠ (num (pos 4) ⊠ (var 0 ⊠ var 2) ⊟ var 1 ⊠ var 1)) tt

-- ---- the region
inside_stretched : (u v w : ℤ) → is_inside (pos 128 *ℤ u) (pos 128 *ℤ v) (pos 128 *ℤ w) ≡ is_inside u v w
inside_stretched u v w = ap (λ g. int_lt (pos 0) (pos 128 *ℤ u) && (int_lt (pos 0) (pos 128 *ℤ v) && int_lt (pos 0) g))
    (gap_stretched u v w) ∙ tests (gap_of u v w)
  where
    tests : (g : ℤ) → (int_lt (pos 0) (pos 128 *ℤ u) && (int_lt (pos 0) (pos 128 *ℤ v) && int_lt (pos 0) (pos 16384 *ℤ g)))
        ≡ (int_lt (pos 0) u && (int_lt (pos 0) v && int_lt (pos 0) g))
    tests g = grind (arith, ints)

chord_stretched : (u v w : ℤ) → is_on_chord (pos 128 *ℤ u) (pos 128 *ℤ v) (pos 128 *ℤ w) ≡ is_on_chord u v w
chord_stretched u v w = grind (arith, ints)

right_stretched : (col : ℤ) (a b c : Place)
    → is_right_of_chord (stretched_place col a) (stretched_place col b) (stretched_place col c) ≡ is_right_of_chord a b c
right_stretched col a b c = tests (area a b c *ℤ (c.y -ℤ a.y)) _ (ap (λ z. z *ℤ (c.y -ℤ a.y)) (area_stretched col a b c)
    ∙ ring (area a b c ∷ c.y ∷ a.y ∷ []) (num (pos 128) ⊠ var 0 ⊠ (var 1 ⊟ var 2)) (num (pos 128) ⊠ (var 0 ⊠ (var 1 ⊟ var 2))) tt)
  where
    tests : (z y : ℤ) → y ≡ pos 128 *ℤ z
        → (int_lt (pos 0) y || (int_eq a.y c.y && int_lt a.y b.y)) ≡ (int_lt (pos 0) z || (int_eq a.y c.y && int_lt a.y b.y))
    tests z y e = grind (arith, ints)

region_part_stretched : (col : ℤ) (a : Place) (b : Option Place) (c p : Place)
    → region_part (stretched_place col a) (option_map (stretched_place col) b) (stretched_place col c) (stretched_place col p)
    ≡ region_part a b c p
region_part_stretched col a None c p = refl
region_part_stretched col a (Some b) c p =
    grind (
      arith,
      signed_linear,
      area_stretched,
      sign_stretched,
      weight_stretched,
      inside_stretched,
      chord_stretched,
      right_stretched,
    )

pub region_stretched : (col : ℤ) (p : Place) (s : Span) → region (stretched_place col p) (stretched_span col s) ≡ region p s
region_stretched col p s = region_part_stretched col s.a s.b s.c p

-- ---- on a piece
none_stretched : (col : ℤ) (a b c : Place)
    → (area (stretched_place col a) (stretched_place col b) (stretched_place col c) ≡ pos 0) ↔ (area a b c ≡ pos 0)
none_stretched col a b c =
    let e = area_stretched col a b c in (λ h. omega (arith, signed, e, h), λ h. omega (arith, signed, e, h))

at_most : (col x y : ℤ) → (stretched_x col x ≤ℤ stretched_x col y) ↔ (x ≤ℤ y)
at_most col x y = (λ h. omega (arith, signed, h), λ h. omega (arith, signed, h))

before : (col x y : ℤ) → (stretched_x col x <ℤ stretched_x col y) ↔ (x <ℤ y)
before col x y = (λ h. omega (arith, signed, h), λ h. omega (arith, signed, h))

between_stretched : (col a c p : ℤ) → IsBetween (stretched_x col a) (stretched_x col c) (stretched_x col p) ↔ IsBetween a c p
between_stretched col a c p = grind (arith, at_most)

turn_stretched : (col a b c p : ℤ)
    → IsBeforeTurn (stretched_x col a) (stretched_x col b) (stretched_x col c) (stretched_x col p) ↔ IsBeforeTurn a b c p
turn_stretched col a b c p = same _ _ _ _ grown
  where
    out : Expr → Expr
    out x = num (pos 128) ⊠ (x ⊟ (num (pos 128) ⊠ var 4 ⊞ num (pos 64))) ⊞ num (pos 64)

    grown : stretched_x col p *ℤ (stretched_x col a -ℤ pos 2 *ℤ stretched_x col b +ℤ stretched_x col c)
        -ℤ (stretched_x col a *ℤ stretched_x col c -ℤ stretched_x col b *ℤ stretched_x col b)
        ≡ pos 16384 *ℤ (p *ℤ (a -ℤ pos 2 *ℤ b +ℤ c) -ℤ (a *ℤ c -ℤ b *ℤ b))
    grown = ring (a ∷ b ∷ c ∷ p ∷ col ∷ [])
        (out (var 3) ⊠ (out (var 0) ⊟ num (pos 2) ⊠ out (var 1) ⊞ out (var 2)) ⊟
        (out (var 0) ⊠ out (var 2) ⊟ out (var 1) ⊠ out (var 1)))
        (num (pos 16384) ⊠ (var 3 ⊠ (var 0 ⊟ num (pos 2) ⊠ var 1 ⊞ var 2) ⊟ (var 0 ⊠ var 2 ⊟ var 1 ⊠ var 1))) tt

    same : (m n k l : ℤ) → m -ℤ n ≡ pos 16384 *ℤ (k -ℤ l) → (n ≤ℤ m) ↔ (l ≤ℤ k)
    same m n k l e = (λ h. omega (arith, signed, e, h), λ h. omega (arith, signed, e, h))

range_stretched : (col a b c p : ℤ)
    → IsInRange (stretched_x col a) (stretched_x col b) (stretched_x col c) (stretched_x col p) ↔ IsInRange a b c p
range_stretched col a b c p =
    let turn = turn_stretched col a b c p in
    let low = either (at_most col a p) (at_most col c p) (before col b a) (before col b c) turn in
    let high = either (at_most col p a) (at_most col p c) (before col a b) (before col c b) turn in
    (λ r. record { low = low.0 r.low; high = high.0 r.high }, λ r. record { low = low.1 r.low; high = high.1 r.high })

arc_stretched : (u v w : ℤ) → AreOnArc (pos 128 *ℤ u) (pos 128 *ℤ v) (pos 128 *ℤ w) ↔ AreOnArc u v w
arc_stretched u v w = grind (arith, signed, gap_stretched u v w)

curve_stretched : (col : ℤ) (a b c p : Place)
    → IsOnCurve (stretched_place col a) (stretched_place col b) (stretched_place col c) (stretched_place col p) ↔ IsOnCurve a b c p
curve_stretched col a b c p =
    let weight = weight_stretched col a b c in
    let arc = arc_stretched (weight_a a b c p) (weight_b a b c p) (weight_c a b c p) in
    grind (arith, signed_linear, none_stretched col a b c, arc, weight p b c, weight a p c, weight a b p)

flat_stretched : (col : ℤ) (a b c p : Place)
    → IsOnFlatArc (stretched_place col a) (stretched_place col b) (stretched_place col c) (stretched_place col p)
    ↔ IsOnFlatArc a b c p
flat_stretched col a b c p = grind (arith, signed_linear, none_stretched, range_stretched col a.x b.x c.x p.x)

on_part_stretched : (col : ℤ) (a : Place) (b : Option Place) (c p : Place)
    → IsOnPart (stretched_place col a) (option_map (stretched_place col) b) (stretched_place col c) (stretched_place col p)
    ↔ IsOnPart a b c p
on_part_stretched col a None c p = grind (arith, signed_linear, none_stretched col a c p, between_stretched col a.x c.x p.x)
on_part_stretched col a (Some b) c p =
    let curve = curve_stretched col a b c p in
    let flat = flat_stretched col a b c p in
    (⊎_map curve.0 flat.0, ⊎_map curve.1 flat.1)

pub on_stretched : (col : ℤ) (p : Place) (s : Span) → IsOn (stretched_place col p) (stretched_span col s) ↔ IsOn p s
on_stretched col p s = on_part_stretched col s.a s.b s.c p
