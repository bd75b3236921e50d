-- Of two numbers one is below the other or not: `below_or_not`, `below_same_above`.
-- For splits by cases, in all crates.
use Rattle.std.proofs.Common.{◌≡◌, ◌⊎◌, ℕ, ◌≤◌, ◌<◌, ℤ, ◌≤ℤ◌, ◌<ℤ◌, arith}
use Rattle.std.proofs.lemmas.Int.{ints}

pub below_or_not : (a b : ℕ) → (a < b) ⊎ (b ≤ a)
below_or_not a b = grind arith

pub below_same_above : (a b : ℕ) → (a < b) ⊎ ((a ≡ b) ⊎ (b < a))
below_same_above a b = grind arith

pub below_or_not_ℤ : (a b : ℤ) → (a <ℤ b) ⊎ (b ≤ℤ a)
below_or_not_ℤ a b = grind (arith, ints)
