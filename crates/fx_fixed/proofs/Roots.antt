-- A component's greatest size follows from the square root as a whole number: `admitted_by_root`.
-- For `root` and `greatest`.
use Rattle.std.proofs.Common.{◌≡◌, ◌≢◌, ℕ, ◌+◌, ◌-◌, ◌*◌, ◌/◌, ◌^◌, ◌<◌, ◌≤◌, inl, inr, ap, arith}
use Rattle.std.proofs.Math.Nat.{mul-le-mul, mul-le-mul_right, le-div_iff_mul-le, div-mul-le_self}
use Rattle.fx_fixed.specs.Greatest.{IsGreatestOrZero}
use Rattle.fx_fixed.proofs.Order.{below_or_not}
use Rattle.fx_fixed.specs.Unit.{Admits}

-- ---- a root by Newton's method

-- the product of two numbers is at most the square of their mean
below_square : (d e : ℕ) → d * (d + 2 * e) ≤ (d + e) * (d + e)
below_square d e = omega arith

-- of d and g with the mean k
below_mean : (d g k : ℕ) → d + g ≡ 2 * k → d * g ≤ k * k
below_mean d g k m = elim (below_or_not d g) [
  | inl l ↦
      let i : g ≡ d + 2 * (k - d) = omega arith in
      let j : k ≡ d + (k - d) = omega arith in
      omega (arith, below_square d (k - d), ap (λ (n : ℕ). d * n) i, ap (λ (n : ℕ). n * n) j)
  | inr l ↦
      let i : d ≡ g + 2 * (k - g) = omega arith in
      let j : k ≡ g + (k - g) = omega arith in
      omega (arith, below_square g (k - g), ap (λ (n : ℕ). n * g) i, ap (λ (n : ℕ). n * n) j)
]

-- a number whose square is at most n is at most the next guess
pub root_below_guess : (n g k : ℕ) → 1 ≤ g → k * k ≤ n → k ≤ (g + n / g) / 2
root_below_guess n g k one h = elim (below_or_not (2 * k) g) [
  | inl l ↦ omega arith
  | inr l ↦
      let product : (2 * k - g) * g ≤ n = omega (arith, h, below_mean (2 * k - g) g k (omega arith)) in
      let quotient : 2 * k - g ≤ n / g = (le-div_iff_mul-le {k = g} {x = 2 * k - g} {y = n} (omega arith)).1 product in
      omega (arith, quotient)
]

-- the first guess is above the roots that are asked for
pub root_below_first : (n k : ℕ) → n ≤ 2 ^ 30 → k * k ≤ n → k ≤ 32768
root_below_first n k b h =
    let past : 32768 < k → ⊥ = λ l.
    let square : 32769 * 32769 ≤ k * k = mul-le-mul l l in
    omega (arith, square) in
    omega (arith, past)

-- ---- the greatest size that is admitted

pub admitted_by_root : (x s r : ℕ) → s ≢ 0 → r ≤ 32768 → r * r ≤ 2 ^ 30 * (x * x) / s
    → ((k : ℕ) → k * k ≤ 2 ^ 30 * (x * x) / s → k ≤ r) → IsGreatestOrZero (Admits x s) ((r + 1) / 2)
admitted_by_root x s r z b below next = record {
  member = λ n.
      let c = (r + 1) / 2 in
      let odd : 2 * c - 1 ≤ r = omega arith in
      let square : (2 * c - 1) * (2 * c - 1) ≤ r * r = mul-le-mul odd odd in
      let most : (2 * c - 1) * (2 * c - 1) ≤ 2 ^ 30 * (x * x) / s = omega (arith, below) in
      (omega arith, omega (arith, mul-le-mul_right s most, div-mul-le_self (2 ^ 30 * (x * x)) s));
  greatest = λ k a.
      let q : (2 * k - 1) * (2 * k - 1) ≤ 2 ^ 30 * (x * x) / s = (le-div_iff_mul-le (omega arith)).1 (omega (arith, a.1)) in
      omega (arith, next (2 * k - 1) q);
}
