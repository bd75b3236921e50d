-- What holds of some or of all numbers from one on.
use Rattle.std.specs.Prelude.{ℕ, zero, suc, Bool, true, false, if◌then◌else◌}

-- of some of the n numbers from k on
unfoldable pub any_from : (ℕ → Bool) → ℕ → ℕ → Bool
any_from test k zero = false
any_from test k (suc n) = if test k then true else any_from test (suc k) n

-- of all of them
unfoldable pub all_from : (ℕ → Bool) → ℕ → ℕ → Bool
all_from test k zero = true
all_from test k (suc n) = if test k then all_from test (suc k) n else false
