-- A place nearer to the chord than one that is not outside the parabola is inside it: `closer`.
-- Serves what a bent arc or a line adds to such a row.
use Rattle.std.proofs.Common.{◌≡◌, ◌≢◌, inl, inr, sym, ap, ◌∙◌, subst, ℤ, pos, ◌+ℤ◌, ◌-ℤ◌, ◌*ℤ◌}
use Rattle.std.proofs.Common.{◌≤ℤ◌, ◌<ℤ◌, [], ◌∷◌, arith}
use Rattle.fx_fixed.specs.Polynomial.{Expr, var, num, ◌⊞◌, ◌⊠◌, ◌⊟◌}
use Rattle.fx_fixed.proofs.Ring.{ring, one-*ℤ}
use Rattle.fx_fixed.proofs.Linear.{signed, signed_linear}
use Rattle.fx_fixed.proofs.Signs.{product_at_least_zero, product_above_zero, square_at_least_zero}
use Rattle.fx_winding.specs.Area.{Place, area, area_of, gap_of}
use Rattle.fx_winding.specs.Winding.{sign, weight_a, weight_b, weight_c}
use Rattle.fx_winding.proofs.Products.{product}
use Rattle.fx_rows.specs.inner.Points.{IsInner}
use Rattle.fx_rows.proofs.Weights.{drop_factor_strict, gap_w, sign_square, step_a, step_c}

-- ---- over plain numbers: with x = su + iv and y = sw + jv, where s = i + j, the gap times s² is this
abbrev scaled : ℤ → ℤ → ℤ → ℤ → ℤ → ℤ
scaled x y i j v = pos 4 *ℤ ((x -ℤ i *ℤ v) *ℤ (y -ℤ j *ℤ v)) -ℤ ((i +ℤ j) *ℤ v) *ℤ ((i +ℤ j) *ℤ v)

scaled_is : (i j u v w : ℤ)
    → ((i +ℤ j) *ℤ (i +ℤ j)) *ℤ gap_of u v w ≡ scaled ((i +ℤ j) *ℤ u +ℤ i *ℤ v) ((i +ℤ j) *ℤ w +ℤ j *ℤ v) i j v
scaled_is i j u v w =
    let s = var 0 ⊞ var 1 in
    ring (i ∷ j ∷ u ∷ v ∷ w ∷ [])
    ((s ⊠ s) ⊠ (num (pos 4) ⊠ (var 2 ⊠ var 4) ⊟ var 3 ⊠ var 3))
    (num (pos 4) ⊠ (((s ⊠ var 2 ⊞ var 0 ⊠ var 3) ⊟ var 0 ⊠ var 3) ⊠ ((s ⊠ var 4 ⊞ var 1 ⊠ var 3) ⊟ var 1 ⊠ var 3)) ⊟ (s ⊠ var 3) ⊠
    (s ⊠ var 3)) tt

scaled_pair : (x y i j v v' : ℤ)
    → v' *ℤ scaled x y i j v ≡ v *ℤ scaled x y i j v' +ℤ (v' -ℤ v) *ℤ (pos 4 *ℤ (x *ℤ y) +ℤ ((i -ℤ j) *ℤ (i -ℤ j)) *ℤ (v *ℤ v'))
scaled_pair x y i j v v' =
    let f : Expr → Expr = λ e. num (pos 4) ⊠ ((var 0 ⊟ var 2 ⊠ e) ⊠ (var 1 ⊟ var 3 ⊠ e)) ⊟ ((var 2 ⊞ var 3) ⊠ e) ⊠
    ((var 2 ⊞ var 3) ⊠ e) in
    ring (x ∷ y ∷ i ∷ j ∷ v ∷ v' ∷ []) (var 5 ⊠ f (var 4))
    (var 4 ⊠ f (var 5) ⊞ (var 5 ⊟ var 4) ⊠ (num (pos 4) ⊠ (var 0 ⊠ var 1) ⊞ ((var 2 ⊟ var 3) ⊠ (var 2 ⊟ var 3)) ⊠ (var 4 ⊠ var 5)))
    tt

four_above : (z : ℤ) → pos 0 <ℤ z → pos 0 <ℤ (pos 4 *ℤ z)
four_above z h = omega (arith, signed)

sum_above : (z a b : ℤ) → z ≡ a +ℤ b → pos 0 ≤ℤ a → pos 0 <ℤ b → pos 0 <ℤ z
sum_above z a b e h k = omega (arith, signed_linear)

sum_above' : (a b : ℤ) → pos 0 <ℤ a → pos 0 ≤ℤ b → pos 0 <ℤ (a +ℤ b)
sum_above' a b h k = omega (arith, signed_linear)

difference_above : (v v' : ℤ) → v <ℤ v' → pos 0 <ℤ (v' -ℤ v)
difference_above v v' h = omega (arith, signed_linear)

greater_is_above : (v v' : ℤ) → pos 0 ≤ℤ v → v <ℤ v' → (pos 0 ≤ℤ v') × (pos 0 <ℤ v')
greater_is_above v v' h k = (omega (arith, signed_linear), omega (arith, signed_linear))

-- between the chord and a place that is not outside the parabola, the gap is above 0
scaled_closer : (x y i j v v' : ℤ) → pos 0 <ℤ (x *ℤ y) → pos 0 ≤ℤ v → v <ℤ v' → pos 0 ≤ℤ scaled x y i j v'
    → pos 0 <ℤ scaled x y i j v
scaled_closer x y i j v v' some h k g =
    let up = greater_is_above v v' h k in
    let p1 = product_at_least_zero v (scaled x y i j v') h g in
    let p2 = product_at_least_zero ((i -ℤ j) *ℤ (i -ℤ j)) (v *ℤ v') (square_at_least_zero (i -ℤ j))
    (product_at_least_zero v v' h up.0) in
    let p3 = sum_above' (pos 4 *ℤ (x *ℤ y)) (((i -ℤ j) *ℤ (i -ℤ j)) *ℤ (v *ℤ v')) (four_above (x *ℤ y) some) p2 in
    let p4 = product_above_zero (v' -ℤ v) _ (difference_above v v' k) p3 in
    drop_factor_strict v' (scaled x y i j v) up.1 (sum_above _ _ _ (scaled_pair x y i j v v') p1 p4)

-- ---- for the weights of a place: both sums depend on its height alone
first_sum : (s ax ay bx by cx cy px py : ℤ)
    → (s *ℤ (by -ℤ cy) +ℤ s *ℤ (ay -ℤ by)) *ℤ (s *ℤ area_of px py bx by cx cy) +ℤ (s *ℤ (by -ℤ cy)) *ℤ (s *ℤ
    area_of ax ay px py cx cy) ≡ ((s *ℤ s) *ℤ area_of ax ay bx by cx cy) *ℤ (py -ℤ cy)
first_sum s ax ay bx by cx cy px py =
    let a = var 1 in let a' = var 2 in
    let b = var 3 in let b' = var 4 in
    let c = var 5 in let c' = var 6 in
    let p = var 7 in let p' = var 8 in
    let t = var 0 in
    ring (s ∷ ax ∷ ay ∷ bx ∷ by ∷ cx ∷ cy ∷ px ∷ py ∷ [])
    ((t ⊠ (b' ⊟ c') ⊞ t ⊠ (a' ⊟ b')) ⊠ (t ⊠ ((b ⊟ p) ⊠ (c' ⊟ p') ⊟ (b' ⊟ p') ⊠ (c ⊟ p))) ⊞ (t ⊠ (b' ⊟ c')) ⊠
    (t ⊠ ((p ⊟ a) ⊠ (c' ⊟ a') ⊟ (p' ⊟ a') ⊠ (c ⊟ a))))
    (((t ⊠ t) ⊠ ((b ⊟ a) ⊠ (c' ⊟ a') ⊟ (b' ⊟ a') ⊠ (c ⊟ a))) ⊠ (p' ⊟ c')) tt

second_sum : (s ax ay bx by cx cy px py : ℤ)
    → (s *ℤ (by -ℤ cy) +ℤ s *ℤ (ay -ℤ by)) *ℤ (s *ℤ area_of ax ay bx by px py) +ℤ (s *ℤ (ay -ℤ by)) *ℤ (s *ℤ
    area_of ax ay px py cx cy) ≡ ((s *ℤ s) *ℤ area_of ax ay bx by cx cy) *ℤ (ay -ℤ py)
second_sum s ax ay bx by cx cy px py =
    let a = var 1 in let a' = var 2 in
    let b = var 3 in let b' = var 4 in
    let c = var 5 in let c' = var 6 in
    let p = var 7 in let p' = var 8 in
    let t = var 0 in
    ring (s ∷ ax ∷ ay ∷ bx ∷ by ∷ cx ∷ cy ∷ px ∷ py ∷ [])
    ((t ⊠ (b' ⊟ c') ⊞ t ⊠ (a' ⊟ b')) ⊠ (t ⊠ ((b ⊟ a) ⊠ (p' ⊟ a') ⊟ (b' ⊟ a') ⊠ (p ⊟ a))) ⊞ (t ⊠ (a' ⊟ b')) ⊠
    (t ⊠ ((p ⊟ a) ⊠ (c' ⊟ a') ⊟ (p' ⊟ a') ⊠ (c ⊟ a))))
    (((t ⊠ t) ⊠ ((b ⊟ a) ⊠ (c' ⊟ a') ⊟ (b' ⊟ a') ⊠ (c ⊟ a))) ⊠ (a' ⊟ p')) tt

-- the gap times a square, from the total and the height
gap_from_height : (a b c p : Place) → area a b c ≢ pos 0
    → ((step_a a b c +ℤ step_c a b c) *ℤ (step_a a b c +ℤ step_c a b c)) *ℤ gap_w a b c p ≡
    scaled (area a b c *ℤ (p.y -ℤ c.y)) (area a b c *ℤ (a.y -ℤ p.y)) (step_a a b c) (step_c a b c) (weight_b a b c p)
gap_from_height a b c p bent =
    let s = sign (area a b c) in
    let one : (s *ℤ s) *ℤ area a b c ≡ area a b c =
    ap (λ z. z *ℤ area a b c) (sign_square (area a b c) bent) ∙ one-*ℤ (area a b c) in
    let x = first_sum s a.x a.y b.x b.y c.x c.y p.x p.y ∙ ap (λ z. z *ℤ (p.y -ℤ c.y)) one in
    let y = second_sum s a.x a.y b.x b.y c.x c.y p.x p.y ∙ ap (λ z. z *ℤ (a.y -ℤ p.y)) one in
    scaled_is (step_a a b c) (step_c a b c) (weight_a a b c p) (weight_b a b c p) (weight_c a b c p)
    ∙ (λ i. scaled (x i) (y i) (step_a a b c) (step_c a b c) (weight_b a b c p))

square_above : (d : ℤ) → d ≢ pos 0 → pos 0 <ℤ (d *ℤ d)
square_above d n = grind (arith, signed_linear, n, product d d)

-- strictly between the ends both factors have one sign
factors : (d p q : ℤ) → (d *ℤ p) *ℤ (d *ℤ q) ≡ (d *ℤ d) *ℤ (p *ℤ q)
factors d p q = ring (d ∷ p ∷ q ∷ []) ((var 0 ⊠ var 1) ⊠ (var 0 ⊠ var 2)) ((var 0 ⊠ var 0) ⊠ (var 1 ⊠ var 2)) tt

heights : (a c y : ℤ) → IsInner a c y → pos 0 <ℤ ((y -ℤ c) *ℤ (a -ℤ y))
heights a c y h = grind (arith, signed_linear, h, product (y -ℤ c) (a -ℤ y))

ends_product : (d a c y : ℤ) → d ≢ pos 0 → IsInner a c y → pos 0 <ℤ ((d *ℤ (y -ℤ c)) *ℤ (d *ℤ (a -ℤ y)))
ends_product d a c y n h = subst (λ z. pos 0 <ℤ z) (sym (factors d (y -ℤ c) (a -ℤ y)))
    (product_above_zero (d *ℤ d) _ (square_above d n) (heights a c y h))

pub slanted : (a c y : ℤ) → IsInner a c y → a ≢ c
slanted a c y (inl h) e = omega (arith, signed_linear, h.0, h.1)
slanted a c y (inr h) e = omega (arith, signed_linear, h.0, h.1)

steps_sum : (s a b c : ℤ) → s *ℤ (b -ℤ c) +ℤ s *ℤ (a -ℤ b) ≡ s *ℤ (a -ℤ c)
steps_sum s a b c = ring (s ∷ a ∷ b ∷ c ∷ []) (var 0 ⊠ (var 2 ⊟ var 3) ⊞ var 0 ⊠ (var 1 ⊟ var 2)) (var 0 ⊠ (var 1 ⊟ var 3)) tt

squares : (s d : ℤ) → (s *ℤ d) *ℤ (s *ℤ d) ≡ (s *ℤ s) *ℤ (d *ℤ d)
squares s d = ring (s ∷ d ∷ []) ((var 0 ⊠ var 1) ⊠ (var 0 ⊠ var 1)) ((var 0 ⊠ var 0) ⊠ (var 1 ⊠ var 1)) tt

apart : (a c : ℤ) → a ≢ c → (a -ℤ c) ≢ pos 0
apart a c n e = n (omega (arith, signed_linear))

steps_square : (a b c : Place) (y : ℤ) → area a b c ≢ pos 0 → IsInner a.y c.y y
    → pos 0 <ℤ ((step_a a b c +ℤ step_c a b c) *ℤ (step_a a b c +ℤ step_c a b c))
steps_square a b c y bent h =
    let s = sign (area a b c) in
    let e = steps_sum s a.y b.y c.y in
    let f : (step_a a b c +ℤ step_c a b c) *ℤ (step_a a b c +ℤ step_c a b c) ≡ (a.y -ℤ c.y) *ℤ (a.y -ℤ c.y) =
    (λ i. e i *ℤ e i) ∙ squares s (a.y -ℤ c.y) ∙ ap (λ z. z *ℤ ((a.y -ℤ c.y) *ℤ (a.y -ℤ c.y))) (sign_square (area a b c) bent)
    ∙ one-*ℤ ((a.y -ℤ c.y) *ℤ (a.y -ℤ c.y)) in
    subst (λ z. pos 0 <ℤ z) (sym f) (square_above (a.y -ℤ c.y) (apart a.y c.y (slanted a.y c.y y h)))

-- a place of the row nearer to the chord than one that is not outside the parabola is inside it
pub closer : (a b c p q : Place) → area a b c ≢ pos 0 → IsInner a.y c.y p.y → q.y ≡ p.y → pos 0 ≤ℤ weight_b a b c p
    → weight_b a b c p <ℤ weight_b a b c q → pos 0 ≤ℤ gap_w a b c q → pos 0 <ℤ gap_w a b c p
closer a b c p q bent inner row low less g =
    let i = step_a a b c in
    let j = step_c a b c in
    let d = area a b c in
    let some = steps_square a b c p.y bent inner in
    let at_q : ((i +ℤ j) *ℤ (i +ℤ j)) *ℤ gap_w a b c q ≡
    scaled (d *ℤ (p.y -ℤ c.y)) (d *ℤ (a.y -ℤ p.y)) i j (weight_b a b c q) =
    gap_from_height a b c q bent ∙ ap (λ y. scaled (d *ℤ (y -ℤ c.y)) (d *ℤ (a.y -ℤ y)) i j (weight_b a b c q)) row in
    let here = scaled_closer (d *ℤ (p.y -ℤ c.y)) (d *ℤ (a.y -ℤ p.y)) i j (weight_b a b c p) (weight_b a b c q)
    (ends_product d a.y c.y p.y bent inner) low less
    (subst (λ z. pos 0 ≤ℤ z) at_q (product_at_least_zero _ _ (square_at_least_zero (i +ℤ j)) g)) in
    drop_factor_strict ((i +ℤ j) *ℤ (i +ℤ j)) (gap_w a b c p) some
    (subst (λ z. pos 0 <ℤ z) (sym (gap_from_height a b c p bent)) here)
