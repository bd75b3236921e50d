-- The range of a quadratic is that of its halves, and along a line one coordinate's range tells the other's: `range_halves`,
-- `range_along`.
-- Serves the law of halves, where the arc's points are on one line.
use Rattle.std.proofs.Common.{◌≡◌, ◌≢◌, ◌↔◌, sym, ap, ◌∙◌, subst, ◌⊎◌, inl, inr, ℤ, pos, ◌+ℤ◌, ◌-ℤ◌, ◌*ℤ◌, neg_ℤ, ◌≤ℤ◌, ◌<ℤ◌}
use Rattle.std.proofs.Common.{[], ◌∷◌, arith}
use Rattle.std.proofs.lemmas.Int.{by_lt_z}
use Rattle.fx_fixed.specs.Polynomial.{var, num, ◌⊞◌, ◌⊠◌, minus, ◌⊟◌}
use Rattle.fx_fixed.proofs.Ring.{ring, *ℤ_comm}
use Rattle.fx_fixed.proofs.Linear.{signed_linear}
use Rattle.fx_fixed.proofs.Signs.{product_at_least_zero, product_above_zero, square_at_least_zero}
use Rattle.fx_winding.specs.Winding.{IsInRange, IsAboveLow, IsBelowHigh}
use Rattle.fx_winding.proofs.Products.{product}
use Rattle.fx_winding.proofs.Reversal.{both_minus, range_back}
use Rattle.fx_winding.proofs.Shifts.{either}

-- the quadratic with these control values comes down to 0
abbrev ComesDown : ℤ → ℤ → ℤ → Type 0
ComesDown a b c = (a ≤ℤ pos 0) ⊎ ((c ≤ℤ pos 0) ⊎ ((b <ℤ a) × (b <ℤ c) × ((a *ℤ c) ≤ℤ (b *ℤ b))))

-- it comes to 0, from above and from below
record Passes (a b c : ℤ) : Type 0 where
  low : ComesDown a b c
  high : ComesDown (neg_ℤ a) (neg_ℤ b) (neg_ℤ c)

-- a value is in the range if the values counted from it pass 0
passes : (a b c p : ℤ) → IsInRange a b c p ↔ Passes (a -ℤ p) (b -ℤ p) (c -ℤ p)
passes a b c p = (λ h. record { low = low.0 h.low; high = high.0 h.high }, λ h. record { low = low.1 h.low; high = high.1 h.high })
  where
    turn : p *ℤ (a -ℤ pos 2 *ℤ b +ℤ c) -ℤ (a *ℤ c -ℤ b *ℤ b) ≡ (b -ℤ p) *ℤ (b -ℤ p) -ℤ (a -ℤ p) *ℤ (c -ℤ p)
    turn = ring (a ∷ b ∷ c ∷ p ∷ []) (var 3 ⊠ (var 0 ⊟ num (pos 2) ⊠ var 1 ⊞ var 2) ⊟ (var 0 ⊠ var 2 ⊟ var 1 ⊠ var 1))
        ((var 1 ⊟ var 3) ⊠ (var 1 ⊟ var 3) ⊟ (var 0 ⊟ var 3) ⊠ (var 2 ⊟ var 3)) tt

    minus : (b -ℤ p) *ℤ (b -ℤ p) -ℤ (a -ℤ p) *ℤ (c -ℤ p) ≡ neg_ℤ (b -ℤ p) *ℤ neg_ℤ (b -ℤ p) -ℤ neg_ℤ (a -ℤ p) *ℤ neg_ℤ (c -ℤ p)
    minus = λ i. sym (both_minus (b -ℤ p) (b -ℤ p)) i -ℤ sym (both_minus (a -ℤ p) (c -ℤ p)) i

    low : IsAboveLow a b c p ↔ ComesDown (a -ℤ p) (b -ℤ p) (c -ℤ p)
    low = either (omega (arith, signed_linear)) (omega (arith, signed_linear)) (omega (arith, signed_linear))
        (omega (arith, signed_linear)) (omega (arith, signed_linear, turn))

    high : IsBelowHigh a b c p ↔ ComesDown (neg_ℤ (a -ℤ p)) (neg_ℤ (b -ℤ p)) (neg_ℤ (c -ℤ p))
    high = either (omega (arith, signed_linear)) (omega (arith, signed_linear)) (omega (arith, signed_linear))
        (omega (arith, signed_linear)) (omega (arith, signed_linear, turn, minus))

-- ---- halves: of a, b, c with m half way from a to b, n from b to c and j from m to n
-- a square is at most another exactly by their sizes
root_order : (a b : ℤ) → b <ℤ a → (a *ℤ a) ≤ℤ (b *ℤ b) → (a +ℤ b) ≤ℤ pos 0
root_order a b h k =
    let q = product (a -ℤ b) (a +ℤ b) in
    let e : (a -ℤ b) *ℤ (a +ℤ b) ≡ a *ℤ a -ℤ b *ℤ b =
    ring (a ∷ b ∷ []) ((var 0 ⊟ var 1) ⊠ (var 0 ⊞ var 1)) (var 0 ⊠ var 0 ⊟ var 1 ⊠ var 1) tt in
    grind (arith, signed_linear)

abbrev four : ℤ → ℤ
four z = (z +ℤ z) +ℤ (z +ℤ z)

-- four times a j - m² is a c - b²
first_turn : (a b c m j : ℤ) → m +ℤ m ≡ a +ℤ b → j +ℤ j +ℤ j +ℤ j ≡ a +ℤ b +ℤ b +ℤ c → four (a *ℤ j -ℤ m *ℤ m) ≡ a *ℤ c -ℤ b *ℤ b
first_turn a b c m j hm hj =
    let d = var 0 ⊠ var 2 ⊟ var 1 ⊠ var 1 in
    let e : four (a *ℤ j -ℤ m *ℤ m) ≡ a *ℤ (j +ℤ j +ℤ j +ℤ j) -ℤ (m +ℤ m) *ℤ (m +ℤ m) =
    ring (a ∷ m ∷ j ∷ []) ((d ⊞ d) ⊞ (d ⊞ d))
    (var 0 ⊠ (var 2 ⊞ var 2 ⊞ var 2 ⊞ var 2) ⊟ (var 1 ⊞ var 1) ⊠ (var 1 ⊞ var 1)) tt in
    let f : a *ℤ (a +ℤ b +ℤ b +ℤ c) -ℤ (a +ℤ b) *ℤ (a +ℤ b) ≡ a *ℤ c -ℤ b *ℤ b =
    ring (a ∷ b ∷ c ∷ []) (var 0 ⊠ (var 0 ⊞ var 1 ⊞ var 1 ⊞ var 2) ⊟ (var 0 ⊞ var 1) ⊠ (var 0 ⊞ var 1))
    (var 0 ⊠ var 2 ⊟ var 1 ⊠ var 1) tt in
    e ∙ (λ i. a *ℤ hj i -ℤ hm i *ℤ hm i) ∙ f

down_back : (a b c : ℤ) → ComesDown a b c → ComesDown c b a
down_back a b c h = let e = *ℤ_comm a c in grind (arith, signed_linear)

-- a quadratic that turns below 0, from the end that is not the higher one, does so in the half from there
down_first : (a b c m j : ℤ) → m +ℤ m ≡ a +ℤ b → j +ℤ j +ℤ j +ℤ j ≡ a +ℤ b +ℤ b +ℤ c → b <ℤ a → a ≤ℤ c
    → (a *ℤ c) ≤ℤ (b *ℤ b) → ComesDown a m j
down_first a b c m j hm hj k l t = by_lt_z a c (λ h. turns h (first_turn a b c m j hm hj)) level
  where
    turns : a <ℤ c → four (a *ℤ j -ℤ m *ℤ m) ≡ a *ℤ c -ℤ b *ℤ b → ComesDown a m j
    turns h e = inr (inr (omega (arith, signed_linear), omega (arith, signed_linear), omega (arith, signed_linear, e, t)))

    level : c ≤ℤ a → ComesDown a m j
    level h =
        let low = root_order a b k (subst (λ z. (a *ℤ z) ≤ℤ (b *ℤ b)) (omega (arith, signed_linear, h, l)) t) in
        inr (inl (omega (arith, signed_linear, low)))

-- the middles of the coordinates of a cut arc
pub record Middles (a b c m n j : ℤ) : Type 0 where
  pub of_m : m +ℤ m ≡ a +ℤ b
  pub of_n : n +ℤ n ≡ b +ℤ c
  pub of_j : j +ℤ j +ℤ j +ℤ j ≡ a +ℤ b +ℤ b +ℤ c

-- the same from the other end
back : {a b c m n j : ℤ} → Middles a b c m n j → Middles c b a n m j
back s = omega (arith, signed_linear, s)

down_halves : {a b c m n j : ℤ} → Middles a b c m n j → ComesDown a b c → ComesDown a m j ⊎ ComesDown j n c
down_halves s (inl h) = inl (inl h)
down_halves s (inr (inl h)) = inr (inr (inl h))
down_halves {a} {b} {c} {m} {n} {j} s (inr (inr (k, l, t))) =
    by_lt_z c a (λ h. inr (down_back c n j (down_first c b a n j (back s).of_m (back s).of_j l (omega (arith, signed_linear, h))
    (subst (λ z. z ≤ℤ (b *ℤ b)) (*ℤ_comm a c) t)))) (λ h. inl (down_first a b c m j s.of_m s.of_j k h t))

half_down : {a b c m n j : ℤ} → Middles a b c m n j → ComesDown a m j → ComesDown a b c
half_down s (inl h) = inl h
half_down {a} {b} {c} {m} {n} {j} s (inr (inl h)) =
    by_lt_z (pos 0) a (λ pa. by_lt_z (pos 0) c (λ pc. inr (inr (turned pa pc))) (λ nc. inr (inl nc))) (λ na. inl na)
  where
    turned : pos 0 <ℤ a → pos 0 <ℤ c → (b <ℤ a) × (b <ℤ c) × ((a *ℤ c) ≤ℤ (b *ℤ b))
    turned pa pc =
        let hj = s.of_j in
        let q = square_at_least_zero (a -ℤ c) in
        let r = product_at_least_zero ((neg_ℤ b -ℤ b) -ℤ (a +ℤ c)) ((neg_ℤ b -ℤ b) +ℤ (a +ℤ c)) (omega (arith, signed_linear))
        (omega (arith, signed_linear)) in
        let t = minus (var 1) ⊟ var 1 in
        let d = var 1 ⊠ var 1 ⊟ var 0 ⊠ var 2 in
        let e : (a -ℤ c) *ℤ (a -ℤ c) +ℤ ((neg_ℤ b -ℤ b) -ℤ (a +ℤ c)) *ℤ ((neg_ℤ b -ℤ b) +ℤ (a +ℤ c)) ≡
        four (b *ℤ b -ℤ a *ℤ c) =
        ring (a ∷ b ∷ c ∷ []) ((var 0 ⊟ var 2) ⊠ (var 0 ⊟ var 2) ⊞ (t ⊟ (var 0 ⊞ var 2)) ⊠ (t ⊞ (var 0 ⊞ var 2)))
        ((d ⊞ d) ⊞ (d ⊞ d)) tt in
        (omega (arith, signed_linear), omega (arith, signed_linear), omega (arith, signed_linear, q, r, e))
half_down {a} {b} {c} {m} {n} {j} s (inr (inr (k, l, t))) =
    let hm = s.of_m in let hj = s.of_j in let e = first_turn a b c m j hm hj in
    inr (inr (omega (arith, signed_linear), omega (arith, signed_linear), omega (arith, signed_linear, e, t)))

-- the middles counted from another value, and from above
from : {a b c m n j : ℤ} (p : ℤ) → Middles a b c m n j → Middles (a -ℤ p) (b -ℤ p) (c -ℤ p) (m -ℤ p) (n -ℤ p) (j -ℤ p)
from p s = omega (arith, signed_linear, s)

over : {a b c m n j : ℤ} → Middles a b c m n j → Middles (neg_ℤ a) (neg_ℤ b) (neg_ℤ c) (neg_ℤ m) (neg_ℤ n) (neg_ℤ j)
over s = omega (arith, signed_linear, s)

-- 0 is passed in the half in which the quadratic comes to it: the join decides
passes_halves : {a b c m n j : ℤ} → Middles a b c m n j → Passes a b c → Passes a m j ⊎ Passes j n c
passes_halves {a} {b} {c} {m} {n} {j} s r =
    by_lt_z (pos 0) j (λ h. below h (down_halves s r.low)) (λ h. above h (down_halves (over s) r.high))
  where
    below : pos 0 <ℤ j → ComesDown a m j ⊎ ComesDown j n c → Passes a m j ⊎ Passes j n c
    below h (inl k) = inl (record { low = k; high = inr (inl (omega (arith, signed_linear, h))) })
    below h (inr k) = inr (record { low = k; high = inl (omega (arith, signed_linear, h)) })

    above : j ≤ℤ pos 0 → ComesDown (neg_ℤ a) (neg_ℤ m) (neg_ℤ j) ⊎ ComesDown (neg_ℤ j) (neg_ℤ n) (neg_ℤ c)
        → Passes a m j ⊎ Passes j n c
    above h (inl k) = inl (record { low = inr (inl h); high = k })
    above h (inr k) = inr (record { low = inl h; high = k })

pub range_halves : (a b c m n j p : ℤ) → Middles a b c m n j → IsInRange a b c p → IsInRange a m j p ⊎ IsInRange j n c p
range_halves a b c m n j p s r = by (passes_halves (from p s) ((passes a b c p).0 r))
  where
    by : Passes (a -ℤ p) (m -ℤ p) (j -ℤ p) ⊎ Passes (j -ℤ p) (n -ℤ p) (c -ℤ p) → IsInRange a m j p ⊎ IsInRange j n c p
    by (inl h) = inl ((passes a m j p).1 h)
    by (inr h) = inr ((passes j n c p).1 h)

pub range_of_first : (a b c m n j p : ℤ) → Middles a b c m n j → IsInRange a m j p → IsInRange a b c p
range_of_first a b c m n j p s r =
    let h = (passes a m j p).0 r in
    (passes a b c p).1 (record { low = half_down (from p s) h.low; high = half_down (over (from p s)) h.high })

pub range_of_second : (a b c m n j p : ℤ) → Middles a b c m n j → IsInRange j n c p → IsInRange a b c p
range_of_second a b c m n j p s r = range_back c b a p (range_of_first c b a n m j p (back s) (range_back j n c p r))

-- ---- values in one proportion
-- the sign of a value by that of the one that it is in proportion to
scaled : (k l x y : ℤ) → pos 0 <ℤ k → pos 0 <ℤ l → k *ℤ y ≡ l *ℤ x → (x ≤ℤ pos 0 → y ≤ℤ pos 0) × (x <ℤ pos 0 → y <ℤ pos 0)
scaled k l x y hk hl e =
    let p = product k y in
    let q = product l x in
    (λ h. grind (arith, signed_linear), λ h. grind (arith, signed_linear))

times_difference : (k x y : ℤ) → k *ℤ (x -ℤ y) ≡ k *ℤ x -ℤ k *ℤ y
times_difference k x y = ring (k ∷ x ∷ y ∷ []) (var 0 ⊠ (var 1 ⊟ var 2)) (var 0 ⊠ var 1 ⊟ var 0 ⊠ var 2) tt

down_scaled : (k l a b c a' b' c' : ℤ) → pos 0 <ℤ k → pos 0 <ℤ l → k *ℤ a' ≡ l *ℤ a → k *ℤ b' ≡ l *ℤ b → k *ℤ c' ≡ l *ℤ c
    → ComesDown a b c → ComesDown a' b' c'
down_scaled k l a b c a' b' c' hk hl ea eb ec (inl h) = inl ((scaled k l a a' hk hl ea).0 h)
down_scaled k l a b c a' b' c' hk hl ea eb ec (inr (inl h)) = inr (inl ((scaled k l c c' hk hl ec).0 h))
down_scaled k l a b c a' b' c' hk hl ea eb ec (inr (inr (g, h, t))) = inr (inr (lower a a' ea g, lower c c' ec h, turned))
  where
    lower : (x x' : ℤ) → k *ℤ x' ≡ l *ℤ x → b <ℤ x → b' <ℤ x'
    lower x x' ex h =
        let e = times_difference l b x in
        let f = times_difference k b' x' in
        let r = (scaled k l (b -ℤ x) (b' -ℤ x') hk hl (omega (arith, signed_linear, e, f, ex, eb))).1
        (omega (arith, signed_linear, h)) in
        omega (arith, signed_linear, r)

    square : (m x y z : ℤ) → (m *ℤ m) *ℤ (x *ℤ z -ℤ y *ℤ y) ≡ (m *ℤ x) *ℤ (m *ℤ z) -ℤ (m *ℤ y) *ℤ (m *ℤ y)
    square m x y z = ring (m ∷ x ∷ y ∷ z ∷ []) ((var 0 ⊠ var 0) ⊠ (var 1 ⊠ var 3 ⊟ var 2 ⊠ var 2))
        ((var 0 ⊠ var 1) ⊠ (var 0 ⊠ var 3) ⊟ (var 0 ⊠ var 2) ⊠ (var 0 ⊠ var 2)) tt

    turned : (a' *ℤ c') ≤ℤ (b' *ℤ b')
    turned =
        let r = (scaled (k *ℤ k) (l *ℤ l) (a *ℤ c -ℤ b *ℤ b) (a' *ℤ c' -ℤ b' *ℤ b') (product_above_zero k k hk hk)
        (product_above_zero l l hl hl) (square k a' b' c' ∙ (λ i. ea i *ℤ ec i -ℤ eb i *ℤ eb i) ∙ sym (square l a b c))).0
        (omega (arith, signed_linear, t)) in
        omega (arith, signed_linear, r)

passes_scaled : (k l a b c a' b' c' : ℤ) → pos 0 <ℤ k → pos 0 <ℤ l → k *ℤ a' ≡ l *ℤ a → k *ℤ b' ≡ l *ℤ b → k *ℤ c' ≡ l *ℤ c
    → Passes a b c → Passes a' b' c'
passes_scaled k l a b c a' b' c' hk hl ea eb ec h = record {
  low = down_scaled k l a b c a' b' c' hk hl ea eb ec h.low;
  high = down_scaled k l (neg_ℤ a) (neg_ℤ b) (neg_ℤ c) (neg_ℤ a') (neg_ℤ b') (neg_ℤ c') hk hl (other a a' ea) (other b b' eb)
      (other c c' ec) h.high;
}
  where
    minus_last : (k x : ℤ) → k *ℤ neg_ℤ x ≡ neg_ℤ (k *ℤ x)
    minus_last k x = ring (k ∷ x ∷ []) (var 0 ⊠ minus (var 1)) (minus (var 0 ⊠ var 1)) tt

    other : (x x' : ℤ) → k *ℤ x' ≡ l *ℤ x → k *ℤ neg_ℤ x' ≡ l *ℤ neg_ℤ x
    other x x' e = minus_last k x' ∙ ap neg_ℤ e ∙ sym (minus_last l x)

passes_minus : {a b c : ℤ} → Passes a b c → Passes (neg_ℤ a) (neg_ℤ b) (neg_ℤ c)
passes_minus {a} {b} {c} h = grind (arith, signed_linear, h)

-- values in the proportion of k to l, k above zero, pass 0 where the others do
passes_along : (k l a b c a' b' c' : ℤ) → pos 0 <ℤ k → k *ℤ a' ≡ l *ℤ a → k *ℤ b' ≡ l *ℤ b → k *ℤ c' ≡ l *ℤ c → Passes a b c
    → Passes a' b' c'
passes_along k l a b c a' b' c' hk ea eb ec h = by_lt_z (pos 0) l (λ u. passes_scaled k l a b c a' b' c' hk u ea eb ec h)
    (λ v. by_lt_z l (pos 0) under (λ w. level (omega (arith, signed_linear, v, w))))
  where
    under : l <ℤ pos 0 → Passes a' b' c'
    under v = passes_scaled k (neg_ℤ l) (neg_ℤ a) (neg_ℤ b) (neg_ℤ c) a' b' c' hk (omega (arith, signed_linear, v))
        (ea ∙ sym (both_minus l a)) (eb ∙ sym (both_minus l b)) (ec ∙ sym (both_minus l c)) (passes_minus h)

    level : l ≡ pos 0 → Passes a' b' c'
    level z =
        let p = product k a' in
        let q = (product l a).no_weight z in
        record { low = inl (grind (arith, signed_linear)); high = inl (grind (arith, signed_linear)) }

-- the coordinates of a line's points are in one proportion, so that one's range tells the other's
pub range_along : (k l ax bx cx px ay by cy py : ℤ) → k ≢ pos 0 → k *ℤ (ay -ℤ py) ≡ l *ℤ (ax -ℤ px)
    → k *ℤ (by -ℤ py) ≡ l *ℤ (bx -ℤ px) → k *ℤ (cy -ℤ py) ≡ l *ℤ (cx -ℤ px) → IsInRange ax bx cx px → IsInRange ay by cy py
range_along k l ax bx cx px ay by cy py nk ea eb ec r = by_lt_z (pos 0) k (λ h. rising k l h ea eb ec)
    (λ h. rising (neg_ℤ k) (neg_ℤ l) (omega (arith, signed_linear, nk, h)) (turned (ay -ℤ py) (ax -ℤ px) ea)
    (turned (by -ℤ py) (bx -ℤ px) eb) (turned (cy -ℤ py) (cx -ℤ px) ec))
  where
    minus_first : (k x : ℤ) → neg_ℤ k *ℤ x ≡ neg_ℤ (k *ℤ x)
    minus_first k x = ring (k ∷ x ∷ []) (minus (var 0) ⊠ var 1) (minus (var 0 ⊠ var 1)) tt

    turned : (y x : ℤ) → k *ℤ y ≡ l *ℤ x → neg_ℤ k *ℤ y ≡ neg_ℤ l *ℤ x
    turned y x e = minus_first k y ∙ ap neg_ℤ e ∙ sym (minus_first l x)

    rising : (k l : ℤ) → pos 0 <ℤ k → k *ℤ (ay -ℤ py) ≡ l *ℤ (ax -ℤ px) → k *ℤ (by -ℤ py) ≡ l *ℤ (bx -ℤ px)
        → k *ℤ (cy -ℤ py) ≡ l *ℤ (cx -ℤ px) → IsInRange ay by cy py
    rising k l hk ea eb ec = (passes ay by cy py).1 (passes_along k l (ax -ℤ px) (bx -ℤ px) (cx -ℤ px) (ay -ℤ py) (by -ℤ py)
        (cy -ℤ py) hk ea eb ec ((passes ax bx cx px).0 r))
