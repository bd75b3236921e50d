-- Rounded quotients: of at most s times the divisor they are at most s, as `near_up_within` says.
-- It serves `near_up`, `straight` and `part_of_rise`.
use Rattle.std.proofs.Common.{◌≢◌, ℕ, suc, ◌+◌, ◌-◌, ◌*◌, ◌/◌, ◌<◌, ◌≤◌, ℤ, pos, negsuc, ◌*ℤ◌, unsigned_abs, arith}
use Rattle.std.proofs.Common.{mul-le-mul_right, mul-le-mul_left}
use Rattle.std.proofs.Math.Nat.{div-mul-le_self}
use Rattle.std.proofs.lemmas.Int.{ints}
use Rattle.fx_fixed.proofs.Bounds.{product_size}
use Rattle.fx_axes.specs.Rounding.{near_down_size, near_up_of}

pub positive : (d : ℕ) → d ≢ 0 → 0 < d
positive d z = omega arith

within : (n d q s : ℕ) → 0 < d → n ≤ s * d → 2 * (q * d) ≤ 2 * n + d → q ≤ s
within n d q s p k h =
    let not_more : s + 1 ≤ q → ⊥ = λ m. omega (arith, mul-le-mul_right d m) in
    omega arith

pub near_within : (n d s : ℕ) → d ≢ 0 → n ≤ s * d → (2 * n + d) / (2 * d) ≤ s
near_within n d s z k =
    let q = (2 * n + d) / (2 * d) in
    let h : q * (2 * d) ≤ 2 * n + d = div-mul-le_self (2 * n + d) (2 * d) in
    within n d q s (positive d z) k (omega (arith, h))

down_within : (n d s : ℕ) → d ≢ 0 → n ≤ s * d → near_down_size n d ≤ s
down_within n d s z k =
    let q = near_down_size n d in
    let h : q * (2 * d) ≤ 2 * n + (d - 1) = div-mul-le_self (2 * n + (d - 1)) (2 * d) in
    within n d q s (positive d z) k (omega (arith, h))

own_size : (n d : ℕ) → d ≢ 0 → n ≤ n * d
own_size n d z = omega (arith, mul-le-mul_left n (positive d z))

pub down_bound : (n d : ℕ) → d ≢ 0 → near_down_size n d ≤ n
down_bound n d z = down_within n d n z (own_size n d z)

pub near_up_within : (n : ℤ) (d s : ℕ) → d ≢ 0 → unsigned_abs n ≤ s * d → unsigned_abs (near_up_of n d) ≤ s
unfolding near_up_of
near_up_within (pos n) d s z k = near_within n d s z k
near_up_within (negsuc n) d s z k = omega (arith, ints, down_within (suc n) d s z k)

pub straight_bound : (n : ℤ) (d : ℕ) → d ≢ 0 → unsigned_abs n ≤ d → unsigned_abs (near_up_of (n *ℤ pos 16384) d) ≤ 16384
straight_bound n d z k =
    near_up_within (n *ℤ pos 16384) d 16384 z (omega (arith, product_size d 16384 n (pos 16384) k (omega arith)))

pub part_bound : (n r w : ℕ) → w ≢ 0 → r ≤ w → (2 * (n * r) + w) / (2 * w) ≤ n
part_bound n r w z k = near_within (n * r) w n z (mul-le-mul_left n k)
