-- A rounded quotient is no larger than what is divided: `size_bound`.
-- It serves `near_quotient`.
use Rattle.std.proofs.Common.{◌≢◌, ℕ, zero, suc, ◌≤◌, pos, arith}
use Rattle.std.proofs.lemmas.Int.{ints}
use Rattle.fx_fixed.specs.Numbers.{near_of, near_size}
use Rattle.fx_fixed.proofs.Rounding.{near_of_is_near, near_bound}

apart : (d : ℕ) → d ≢ 0 → pos d ≢ pos 0
apart zero z = λ e. z (omega (arith, ints, e))
apart (suc d) z = λ e. omega (arith, ints, e)

pub size_bound : (n d : ℕ) → d ≢ 0 → near_size n d ≤ n
unfolding near_of
size_bound n d z =
    near_bound (pos n) (pos d) (near_of (pos n) (pos d)) (apart d z) (near_of_is_near (pos n) (pos d) (apart d z))
