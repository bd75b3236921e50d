-- A number that is not below 0 is at least 0 (`not_below_zero`), and two numbers are equal or not (`equal_or_not`).
-- Serves the lemmas on gaps, sides and marks.
use Rattle.std.proofs.Common.{◌≡◌, ◌≢◌, ◌⊎◌, ℕ, ℤ, pos, ◌<ℤ◌, ◌≤ℤ◌, arith}
use Rattle.fx_fixed.proofs.Linear.{signed_linear}
use Rattle.fx_fixed.proofs.Order.{below_or_not_ℤ}
use Rattle.std.proofs.lemmas.Int.{ints}

pub not_below_zero : (x : ℤ) → ¬ (x <ℤ pos 0) → pos 0 ≤ℤ x
not_below_zero x n = grind (arith, ints)

pub below_zero_if_not : (x : ℤ) → ¬ (pos 0 ≤ℤ x) → x <ℤ pos 0
below_zero_if_not x n = grind (arith, ints)

pub above_or_zero : (z : ℤ) → pos 0 ≤ℤ z → (pos 0 <ℤ z) ⊎ (z ≡ pos 0)
above_or_zero z h = grind (arith, ints)

pub same_or_not : (x y : ℤ) → (x ≡ y) ⊎ (x ≢ y)
same_or_not x y = grind (arith, signed_linear, below_or_not_ℤ x y, below_or_not_ℤ y x)

pub equal_or_not : (a b : ℕ) → (a ≡ b) ⊎ (a ≢ b)
equal_or_not a b = grind arith
