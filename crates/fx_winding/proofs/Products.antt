-- A product is 0, above 0 or below 0 as its factors say: `product`, with facts that `grind` takes.
-- Serves the sums around triangles and values in one proportion.
use Rattle.std.proofs.Common.{◌≡◌, ◌≢◌, ℤ, pos, ◌*ℤ◌, ◌<ℤ◌, arith}
use Rattle.std.proofs.lemmas.Int.{by_lt_z}
use Rattle.fx_fixed.proofs.Ring.{zero_*ℤ}
use Rattle.fx_fixed.proofs.Linear.{signed_linear}
use Rattle.fx_fixed.proofs.Signs.{product_above_zero}

-- z has the sign of the product of k and h
pub record IsProduct (k h z : ℤ) : Type 0 where
  pub both : pos 0 <ℤ k → pos 0 <ℤ h → pos 0 <ℤ z
  pub low : pos 0 <ℤ k → h <ℤ pos 0 → z <ℤ pos 0
  pub down : k <ℤ pos 0 → pos 0 <ℤ h → z <ℤ pos 0
  pub neither : k <ℤ pos 0 → h <ℤ pos 0 → pos 0 <ℤ z
  pub no_weight : k ≡ pos 0 → z ≡ pos 0
  pub level : h ≡ pos 0 → z ≡ pos 0

pub product : (k h : ℤ) → IsProduct k h (k *ℤ h)
product k h = grind (arith, signed_linear, product_above_zero, zero_*ℤ)

-- a number is 0 or not
pub by_zero : {P : Type 0} (z : ℤ) → (z ≡ pos 0 → P) → (z ≢ pos 0 → P) → P
by_zero z f g = by_lt_z z (pos 0) (λ h. g (λ e. omega (arith, signed_linear, h, e)))
    (λ h. by_lt_z (pos 0) z (λ k. g (λ e. omega (arith, signed_linear, k, e))) (λ k. f (omega (arith, signed_linear, h, k))))
