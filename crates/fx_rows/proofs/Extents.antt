-- A quadratic comes to a value beyond its ends exactly from a distance of its middle control value on: `turns_low`, `turned_low`,
-- `turns_high`, `turned_high`.
-- Serves the least and the greatest value of a quadratic.
use Rattle.std.proofs.Common.{◌≡◌, ◌↔◌, inl, inr, refl, ◌∙◌, ap, ℕ, ◌^◌, ◌<◌, ◌≤◌, ℤ, pos, negsuc, ◌+ℤ◌, ◌-ℤ◌, ◌*ℤ◌, ◌≤ℤ◌, ◌<ℤ◌, Some, [], ◌∷◌}
use Rattle.std.proofs.Common.{subst, w32, to_z, of_z, arith}
use Rattle.std.proofs.lemmas.Int.{ints}
use Rattle.fx_fixed.specs.Polynomial.{var, num, ◌⊞◌, ◌⊠◌, ◌⊟◌}
use Rattle.fx_fixed.proofs.Linear.{signed_linear}
use Rattle.fx_fixed.proofs.Order.{below_or_not_ℤ}
use Rattle.fx_fixed.proofs.Ring.{ring}
use Rattle.fx_fixed.proofs.Signs.{product_at_least_zero}
use Rattle.fx_winding.specs.Area.{Place}
use Rattle.fx_winding.specs.Winding.{IsBeforeTurn, IsAboveLow, IsBelowHigh, IsInRange}
use Rattle.fx_winding.specs.declared.point.Point.{Point}
use Rattle.fx_winding.proofs.Triangle.{not_below_range, not_above_range}
use Rattle.fx_rows.specs.inner.Heights.{AreNear, IsAbove, IsBelow}
use Rattle.fx_fixed.specs.Ranges.{IsWithin}
use Rattle.fx_fixed.proofs.Bounds.{product_within}
use Rattle.fx_rows.proofs.Missed.{turn_expr}
use Rattle.fx_rows.proofs.Values.{held}

-- at a distance below n from its middle control value no quadratic comes whose ends are at the distances a and c
abbrev pub IsOff : ℤ → ℤ → ℤ → Type 0
IsOff a c n = (k : ℕ) → pos k <ℤ n → (pos k *ℤ (a +ℤ c)) <ℤ (a *ℤ c)

-- at one of n and more it does
abbrev pub IsFrom : ℤ → ℤ → ℤ → Type 0
IsFrom a c n = (k : ℕ) → n ≤ℤ pos k → (a *ℤ c) ≤ℤ (pos k *ℤ (a +ℤ c))

pub turns_low : (a b c y n : ℤ) → (b <ℤ a) × (b <ℤ c) → IsOff (a -ℤ b) (c -ℤ b) n → y <ℤ (b +ℤ n) → ¬ (IsBeforeTurn a b c y)
turns_low a b c y n ends off l h = by (y -ℤ b) refl
  where
    by : (z : ℤ) → z ≡ y -ℤ b → ⊥
    by (negsuc k) e = not_below_range a b c y (omega (arith, ints, e)) (ends.0, ends.1, h)
    by (pos k) e =
        let f = ring (a ∷ b ∷ c ∷ y ∷ []) turn_expr
        ((var 0 ⊟ var 1) ⊠ (var 2 ⊟ var 1) ⊟ (var 3 ⊟ var 1) ⊠ ((var 0 ⊟ var 1) ⊞ (var 2 ⊟ var 1))) tt in
        let o = off k (omega (arith, signed_linear, e, l)) in
        let g = ap (λ (z : ℤ). z *ℤ ((a -ℤ b) +ℤ (c -ℤ b))) e in omega (arith, signed_linear, f, o, g, h)

pub turned_low : (a b c y n : ℤ) → pos 0 ≤ℤ n → IsFrom (a -ℤ b) (c -ℤ b) n → (b +ℤ n) ≤ℤ y → IsBeforeTurn a b c y
turned_low a b c y n some from l = by (y -ℤ b) refl
  where
    by : (z : ℤ) → z ≡ y -ℤ b → IsBeforeTurn a b c y
    by (negsuc k) e = absurd (omega (arith, signed_linear, ints, e, some, l))
    by (pos k) e =
        let f = ring (a ∷ b ∷ c ∷ y ∷ []) turn_expr
        ((var 0 ⊟ var 1) ⊠ (var 2 ⊟ var 1) ⊟ (var 3 ⊟ var 1) ⊠ ((var 0 ⊟ var 1) ⊞ (var 2 ⊟ var 1))) tt in
        let o = from k (omega (arith, signed_linear, e, l)) in
        let g = ap (λ (z : ℤ). z *ℤ ((a -ℤ b) +ℤ (c -ℤ b))) e in omega (arith, signed_linear, f, o, g)

pub turns_high : (a b c y n : ℤ) → (a <ℤ b) × (c <ℤ b) → IsOff (b -ℤ a) (b -ℤ c) n → (b -ℤ n) <ℤ y → ¬ (IsBeforeTurn a b c y)
turns_high a b c y n ends off l h = by (b -ℤ y) refl
  where
    by : (z : ℤ) → z ≡ b -ℤ y → ⊥
    by (negsuc k) e = not_above_range a b c y (omega (arith, ints, e)) (ends.0, ends.1, h)
    by (pos k) e =
        let f = ring (a ∷ b ∷ c ∷ y ∷ []) turn_expr
        ((var 1 ⊟ var 0) ⊠ (var 1 ⊟ var 2) ⊟ (var 1 ⊟ var 3) ⊠ ((var 1 ⊟ var 0) ⊞ (var 1 ⊟ var 2))) tt in
        let o = off k (omega (arith, signed_linear, e, l)) in
        let g = ap (λ (z : ℤ). z *ℤ ((b -ℤ a) +ℤ (b -ℤ c))) e in omega (arith, signed_linear, f, o, g, h)

pub turned_high : (a b c y n : ℤ) → pos 0 ≤ℤ n → IsFrom (b -ℤ a) (b -ℤ c) n → y ≤ℤ (b -ℤ n) → IsBeforeTurn a b c y
turned_high a b c y n some from l = by (b -ℤ y) refl
  where
    by : (z : ℤ) → z ≡ b -ℤ y → IsBeforeTurn a b c y
    by (negsuc k) e = absurd (omega (arith, signed_linear, ints, e, some, l))
    by (pos k) e =
        let f = ring (a ∷ b ∷ c ∷ y ∷ []) turn_expr
        ((var 1 ⊟ var 0) ⊠ (var 1 ⊟ var 2) ⊟ (var 1 ⊟ var 3) ⊠ ((var 1 ⊟ var 0) ⊞ (var 1 ⊟ var 2))) tt in
        let o = from k (omega (arith, signed_linear, e, l)) in
        let g = ap (λ (z : ℤ). z *ℤ ((b -ℤ a) +ℤ (b -ℤ c))) e in omega (arith, signed_linear, f, o, g)

-- ---- the distance is at most that of an end, and small
pub off_end : (a c n : ℤ) → pos 0 <ℤ a → pos 0 <ℤ c → IsOff a c n → n ≤ℤ a
off_end a c n ha hc off = elim (below_or_not_ℤ a n) [ inl l ↦ absurd (by a refl l) | inr h ↦ h ]
  where
    by : (z : ℤ) → z ≡ a → a <ℤ n → ⊥
    by (negsuc k) e l = omega (arith, signed_linear, ints, e, ha)
    by (pos k) e l =
        let o = off k (omega (arith, signed_linear, e, l)) in
        let g = ap (λ (z : ℤ). z *ℤ (a +ℤ c)) e in
        let f = ring (a ∷ c ∷ []) (var 0 ⊠ (var 0 ⊞ var 1)) (var 0 ⊠ var 0 ⊞ var 0 ⊠ var 1) tt in
        let s = product_at_least_zero a a (omega (arith, signed_linear, ha)) (omega (arith, signed_linear, ha)) in
        omega (arith, signed_linear, f, o, g, s)

pub off_other : (a c n : ℤ) → IsOff a c n → IsOff c a n
off_other a c n off k l =
    let o = off k l in
    let e : pos k *ℤ (c +ℤ a) ≡ pos k *ℤ (a +ℤ c) =
    ring (a ∷ c ∷ pos k ∷ []) (var 2 ⊠ (var 1 ⊞ var 0)) (var 2 ⊠ (var 0 ⊞ var 1)) tt in
    let f : c *ℤ a ≡ a *ℤ c = ring (a ∷ c ∷ []) (var 1 ⊠ var 0) (var 0 ⊠ var 1) tt in omega (arith, signed_linear, o, e, f)

-- all distances are small
pub from_far : (a c : ℤ) (k : ℕ) → pos 0 <ℤ a → pos 0 <ℤ c → a ≤ℤ pos (2 ^ 31) → c ≤ℤ pos (2 ^ 31) → 2 ^ 30 ≤ k
    → (a *ℤ c) ≤ℤ (pos k *ℤ (a +ℤ c))
from_far a c k ha hc la lc far =
    let t = pos k in
    let half = pos 1073741824 in
    let whole = pos 2147483648 in
    let e : (t *ℤ (a +ℤ c) -ℤ a *ℤ c) +ℤ (t *ℤ (a +ℤ c) -ℤ a *ℤ c)
    ≡ ((t -ℤ half) *ℤ (a +ℤ c) +ℤ (t -ℤ half) *ℤ (a +ℤ c)) +ℤ (whole -ℤ a) *ℤ c +ℤ (whole -ℤ c) *ℤ a =
    let over = var 2 ⊠ (var 0 ⊞ var 1) ⊟ var 0 ⊠ var 1 in
    let far = (var 2 ⊟ num half) ⊠ (var 0 ⊞ var 1) in
    ring (a ∷ c ∷ t ∷ []) (over ⊞ over) ((far ⊞ far) ⊞ (num whole ⊟ var 0) ⊠ var 1 ⊞ (num whole ⊟ var 1) ⊠ var 0) tt in
    let x = product_at_least_zero (t -ℤ half) (a +ℤ c) (omega (arith, signed_linear, far)) (omega (arith, signed_linear, ha, hc)) in
    let y = product_at_least_zero (whole -ℤ a) c (omega (arith, signed_linear, la)) (omega (arith, signed_linear, hc)) in
    let z = product_at_least_zero (whole -ℤ c) a (omega (arith, signed_linear, lc)) (omega (arith, signed_linear, ha)) in
    omega (arith, signed_linear, e, x, y, z)

-- ---- the ends of a quadratic's range
pub low_plain : (a b c x : ℤ) → (x <ℤ a → c ≤ℤ x) → IsAboveLow a b c x
low_plain a b c x h = elim (below_or_not_ℤ x a) [ inl l ↦ inr (inl (h l)) | inr m ↦ inl m ]

pub low_turned : (a b c x : ℤ) → x <ℤ a → x <ℤ c → ¬ (IsBeforeTurn a b c x) → ¬ (IsAboveLow a b c x)
low_turned a b c x h k n l = grind (arith, signed_linear)

pub high_plain : (a b c x : ℤ) → (a <ℤ x → x ≤ℤ c) → IsBelowHigh a b c x
high_plain a b c x h = elim (below_or_not_ℤ a x) [ inl l ↦ inr (inl (h l)) | inr m ↦ inl m ]

pub high_turned : (a b c x : ℤ) → a <ℤ x → c <ℤ x → ¬ (IsBeforeTurn a b c x) → ¬ (IsBelowHigh a b c x)
high_turned a b c x h k n l = grind (arith, signed_linear)

-- what holds of control values as words hold them holds of them
pub here : (a b c : ℤ) → AreNear a b c → (P : ℤ → ℤ → ℤ → Type 0)
    → P (to_z w32 (of_z w32 a)) (to_z w32 (of_z w32 b)) (to_z w32 (of_z w32 c))
    → P a b c
here a b c near P h =
    let x : to_z w32 (of_z w32 a) ≡ a = omega (arith, signed_linear, near) in
    let y : to_z w32 (of_z w32 b) ≡ b = omega (arith, signed_linear, near) in
    let z : to_z w32 (of_z w32 c) ≡ c = omega (arith, signed_linear, near) in
    subst (λ q. q) (λ i. P (x i) (y i) (z i)) h

-- ---- a product that a word holds
pub product_held : (a c : ℤ) → IsWithin (2 ^ 31) a → IsWithin (2 ^ 31) c → held (held a *ℤ held c) ≡ a *ℤ c
product_held a c ha hc =
    let p = product_within (2 ^ 31) (2 ^ 31) a c ha hc in
    let ea : held a ≡ a = omega (arith, signed_linear, ha) in
    let ec : held c ≡ c = omega (arith, signed_linear, hc) in
    let e : held (a *ℤ c) ≡ a *ℤ c = omega (arith, signed_linear, p) in
    (λ i. held (ea i *ℤ ec i)) ∙ e

-- ---- points are near
pub near_heights : (a b c : Point) → AreNear a.y b.y c.y
near_heights a b c = (
  (omega (arith, signed_linear), omega (arith, signed_linear)),
  (omega (arith, signed_linear), omega (arith, signed_linear)),
  (omega (arith, signed_linear), omega (arith, signed_linear)),
)

pub near_columns : (a b c : Point) → AreNear a.x b.x c.x
near_columns a b c = (
  (omega (arith, signed_linear), omega (arith, signed_linear)),
  (omega (arith, signed_linear), omega (arith, signed_linear)),
  (omega (arith, signed_linear), omega (arith, signed_linear)),
)

-- ---- the columns of a range
pub range_iff : (a b c x : ℤ) (low high k : ℕ) → (k < low → ¬ (IsAboveLow a b c x)) → (low ≤ k → IsAboveLow a b c x)
    → (k < high → IsBelowHigh a b c x) → (high ≤ k → ¬ (IsBelowHigh a b c x)) → IsInRange a b c x ↔ ((low ≤ k) × (k < high))
range_iff a b c x low high k l0 l1 h i = grind (arith, l0, l1, h, i)

-- ---- a piece at a height that its quadratic does not come to
pub is_above : (a b c : Place) (y : ℤ) → ¬ (IsAboveLow a.y b.y c.y y) → IsAbove (record { a = a; b = Some b; c = c }) y
is_above a b c y n = grind (arith, signed_linear, n, below_or_not_ℤ y a.y, below_or_not_ℤ y b.y, below_or_not_ℤ y c.y)

pub is_below : (a b c : Place) (y : ℤ) → ¬ (IsBelowHigh a.y b.y c.y y) → IsBelow (record { a = a; b = Some b; c = c }) y
is_below a b c y n = grind (arith, signed_linear, n, below_or_not_ℤ a.y y, below_or_not_ℤ b.y y, below_or_not_ℤ c.y y)
