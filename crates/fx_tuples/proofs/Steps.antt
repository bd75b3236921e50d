-- A number that is not 0 is one more than the number below it: `below`.
-- For point numbers and deltas, which are read one at a time.
use Rattle.std.proofs.Common.{◌≡◌, ◌≢◌, ℕ, suc, ◌-◌, arith}

pub below : (n m : ℕ) → n ≢ 0 → m ≡ n - 1 → n ≡ suc m
below n m h e = omega arith
