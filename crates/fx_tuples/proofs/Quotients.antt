-- A scalar times a factor is no larger than the scalar: `scaled_bound`.
-- It serves `scaled`.
use Rattle.std.proofs.Common.{◌≢◌, ℕ, ◌+◌, ◌*◌, ◌/◌, ◌<◌, ◌≤◌, arith, mul-le-mul_right, mul-le-mul_left}
use Rattle.std.proofs.Math.Nat.{div-mul-le_self}
use Rattle.fx_axes.proofs.Quotients.{positive}

product_bound : (s f d q : ℕ) → 0 < d → s * f ≤ s * d → 2 * (q * d) ≤ 2 * (s * f) + d → q ≤ s
product_bound s f d q p k h =
    let not_more : s + 1 ≤ q → ⊥ = λ m. omega (arith, mul-le-mul_right d m, k, h) in
    omega arith

pub scaled_bound : (s f d : ℕ) → d ≢ 0 → f ≤ d → (2 * (s * f) + d) / (2 * d) ≤ s
scaled_bound s f d z k =
    let q = (2 * (s * f) + d) / (2 * d) in
    let h : q * (2 * d) ≤ 2 * (s * f) + d = div-mul-le_self (2 * (s * f) + d) (2 * d) in
    product_bound s f d q (positive d z) (mul-le-mul_left s k) (omega (arith, h))
