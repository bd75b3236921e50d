-- A place of an arc's region that is on the line of the arc's chord lies between the chord's ends: `between_rising`, `aside_row`.
-- Serves what mirrored and exchanged pieces add there.
use Rattle.std.proofs.Common.{◌≡◌, ap, ◌∙◌, ◌⊎◌, inl, inr, ℤ, pos, ◌+ℤ◌, ◌-ℤ◌, ◌*ℤ◌, neg_ℤ, ◌≤ℤ◌, ◌<ℤ◌, [], ◌∷◌, arith}
use Rattle.std.proofs.lemmas.Int.{ints, by_lt_z}
use Rattle.fx_fixed.specs.Polynomial.{var, ◌⊞◌, ◌⊠◌, minus, ◌⊟◌}
use Rattle.fx_fixed.proofs.Ring.{ring, *ℤ_comm}
use Rattle.fx_fixed.proofs.Linear.{signed_linear}
use Rattle.fx_fixed.proofs.Signs.{product_at_least_zero, product_above_zero}
use Rattle.fx_winding.specs.Area.{Place, area, area_of}
use Rattle.fx_winding.specs.Winding.{sign, weight_a, weight_b, weight_c}
use Rattle.fx_winding.proofs.Columns.{IsOnRising, times_none}
use Rattle.fx_winding.proofs.Triangle.{area_swap}
use Rattle.fx_winding.proofs.Regions.{IsInRegion}
use Rattle.fx_winding.proofs.Triangle.{area_expr, balance_x, balance_y}

-- the area with a place in the row of an end
pub area_start : (ax ay cx cy px : ℤ) → area_of ax ay cx cy px ay ≡ (cy -ℤ ay) *ℤ (ax -ℤ px)
area_start ax ay cx cy px = ring (ax ∷ ay ∷ cx ∷ cy ∷ px ∷ []) (area_expr (var 0) (var 1) (var 2) (var 3) (var 4) (var 1))
    ((var 3 ⊟ var 1) ⊠ (var 0 ⊟ var 4)) tt

-- on the chord's line the distances of the ends from a place balance by their weights
ends_balance : (a b c p : Place) → area a c p ≡ pos 0
    → (weight_a a b c p *ℤ (a.x -ℤ p.x) +ℤ weight_c a b c p *ℤ (c.x -ℤ p.x) ≡ pos 0)
    × (weight_a a b c p *ℤ (a.y -ℤ p.y) +ℤ weight_c a b c p *ℤ (c.y -ℤ p.y) ≡ pos 0)
ends_balance a b c p z = (along_x, along_y)
  where
    middle : weight_b a b c p ≡ pos 0
    middle = times_none (sign (area a b c)) (area a p c) (area_swap a c p ∙ ap neg_ℤ z)

    flat : (v k : ℤ) → v ≡ pos 0 → v *ℤ k ≡ pos 0
    flat v k e = *ℤ_comm v k ∙ times_none k v e

    along_x : weight_a a b c p *ℤ (a.x -ℤ p.x) +ℤ weight_c a b c p *ℤ (c.x -ℤ p.x) ≡ pos 0
    along_x =
        let f = balance_x (sign (area a b c)) a b c p in
        let m = flat (weight_b a b c p) (b.x -ℤ p.x) middle in
        omega (arith, signed_linear, f, m)

    along_y : weight_a a b c p *ℤ (a.y -ℤ p.y) +ℤ weight_c a b c p *ℤ (c.y -ℤ p.y) ≡ pos 0
    along_y =
        let f = balance_y (sign (area a b c)) a b c p in
        let m = flat (weight_b a b c p) (b.y -ℤ p.y) middle in
        omega (arith, signed_linear, f, m)

-- so both are 0 where the place is not strictly between them
none_low : (u w x y : ℤ) → pos 0 <ℤ u → pos 0 <ℤ w → u *ℤ x +ℤ w *ℤ y ≡ pos 0 → pos 0 ≤ℤ x → pos 0 ≤ℤ y → (x ≡ pos 0) × (y ≡ pos 0)
none_low u w x y h k e l m = (
  by_lt_z (pos 0) x (λ n. absurd (let p = product_above_zero u x h n in
      let q = product_at_least_zero w y (omega (arith, signed_linear, k)) m in omega (arith, signed_linear, p, q, e)))
      (λ n. omega (arith, signed_linear, n, l)),
  by_lt_z (pos 0) y (λ n. absurd (let p = product_above_zero w y k n in
      let q = product_at_least_zero u x (omega (arith, signed_linear, h)) l in omega (arith, signed_linear, p, q, e)))
      (λ n. omega (arith, signed_linear, n, m)),
)

-- the ends are both before a number or at it, or both after it or at it
abbrev pub IsAsideOf : ℤ → ℤ → ℤ → Type 0
IsAsideOf a c p = ((p ≤ℤ a) × (p ≤ℤ c)) ⊎ ((a ≤ℤ p) × (c ≤ℤ p))

none_aside : (u w a c p : ℤ) → pos 0 <ℤ u → pos 0 <ℤ w → u *ℤ (a -ℤ p) +ℤ w *ℤ (c -ℤ p) ≡ pos 0 → IsAsideOf a c p
    → (p ≡ a) × (p ≡ c)
none_aside u w a c p h k e (inl (l, m)) =
    let n = none_low u w (a -ℤ p) (c -ℤ p) h k e (omega (arith, signed_linear, l)) (omega (arith, signed_linear, m)) in
    (omega (arith, signed_linear, n), omega (arith, signed_linear, n))
none_aside u w a c p h k e (inr (l, m)) =
    let f : u *ℤ (p -ℤ a) +ℤ w *ℤ (p -ℤ c) ≡ neg_ℤ (u *ℤ (a -ℤ p) +ℤ w *ℤ (c -ℤ p)) =
    ring (u ∷ w ∷ a ∷ c ∷ p ∷ []) (var 0 ⊠ (var 4 ⊟ var 2) ⊞ var 1 ⊠ (var 4 ⊟ var 3))
    (minus (var 0 ⊠ (var 2 ⊟ var 4) ⊞ var 1 ⊠ (var 3 ⊟ var 4))) tt in
    let n = none_low u w (p -ℤ a) (p -ℤ c) h k (f ∙ ap neg_ℤ e) (omega (arith, signed_linear, l))
    (omega (arith, signed_linear, m)) in
    (omega (arith, signed_linear, n), omega (arith, signed_linear, n))

-- in the region of an arc with a place on the chord's line the weights of the ends are above 0
region_ends : (a b c p : Place) → area a c p ≡ pos 0 → IsInRegion a b c p
    → (pos 0 <ℤ weight_a a b c p) × (pos 0 <ℤ weight_c a b c p)
region_ends a b c p z (inl (u, v, w, g)) = (u, w)
region_ends a b c p z (inr (v, u, w, s)) = (u, w)

-- so a place that is not strictly between the ends, in rows or in columns, is both of them
pub aside_row : (a b c p : Place) → area a c p ≡ pos 0 → IsInRegion a b c p → IsAsideOf a.y c.y p.y → (p.y ≡ a.y) × (p.y ≡ c.y)
aside_row a b c p z h s =
    let w = region_ends a b c p z h in
    none_aside (weight_a a b c p) (weight_c a b c p) a.y c.y p.y w.0 w.1 (ends_balance a b c p z).1 s

pub aside_column : (a b c p : Place) → area a c p ≡ pos 0 → IsInRegion a b c p → IsAsideOf a.x c.x p.x → (p.x ≡ a.x) × (p.x ≡ c.x)
aside_column a b c p z h s =
    let w = region_ends a b c p z h in
    none_aside (weight_a a b c p) (weight_c a b c p) a.x c.x p.x w.0 w.1 (ends_balance a b c p z).0 s

-- if the chord rises, a place of the region is between the ends
pub between_rising : (a b c p : Place) → a.y <ℤ c.y → area a c p ≡ pos 0 → IsInRegion a b c p → IsOnRising a c p
between_rising a b c p l z h = by (known a.y c.y p.y l)
  where
    known : (a c p : ℤ) → a <ℤ c → ((a <ℤ p) × (p <ℤ c)) ⊎ IsAsideOf a c p
    known a c p l = grind (arith, ints)

    by : ((a.y <ℤ p.y) × (p.y <ℤ c.y)) ⊎ IsAsideOf a.y c.y p.y → IsOnRising a c p
    by (inl (low, high)) = record { low = low; high = high; none = z }
    by (inr s) = let e = aside_row a b c p z h s in absurd (omega (arith, signed_linear, e, l))
