-- The greatest number of a kind.
use Rattle.std.specs.Prelude.{◌≢◌, ℕ, zero, suc, ◌≤◌, Bool, if◌then◌else◌}

-- c is the greatest number of which P holds, or 0 if it holds of none
pub record IsGreatestOrZero (P : ℕ → Type 0) (c : ℕ) : Type 0 where
  pub member : c ≢ 0 → P c
  pub greatest : (k : ℕ) → P k → k ≤ c

-- the greatest number up to n that passes, or 0
unfoldable pub greatest_passing : (ℕ → Bool) → ℕ → ℕ
greatest_passing test zero = 0
greatest_passing test (suc n) = if test (suc n) then suc n else greatest_passing test n
