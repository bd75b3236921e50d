-- A rounded quotient of sizes is one of numbers that are not negative: `near_positive`.
-- It serves the proportions of IUP.
use Rattle.std.proofs.Common.{◌≡◌, ◌*◌, ℕ, ℤ, pos, ◌*ℤ◌, sym, ap}
use Rattle.std.proofs.Math.IntN.{pos-*ℤ-pos}
use Rattle.fx_fixed.specs.Numbers.{near_of, near_size}

pub near_positive : (a b d : ℤ) (m n k : ℕ) → a ≡ pos m → b ≡ pos n → d ≡ pos k → pos (near_size (m * n) k) ≡ near_of (a *ℤ b) d
unfolding near_of
near_positive a b d m n k e f g =
    rw (e, f, g) (sym (ap (λ (z : ℤ). near_of z (pos k)) (pos-*ℤ-pos m n)))
