-- Products of distances, and their difference, do not overflow: `product_is`, `products_difference`.
-- It serves the fractions of ISECT.
use Rattle.std.proofs.Common.{◌≡◌, ◌≤◌, ◌^◌, ℤ, unsigned_abs, to_z, of_z, arith, ◌-ℤ◌, ◌*ℤ◌}
use Rattle.std.proofs.lemmas.Int.{to_z-of_z, fits_signed_mul, ints}
use Rattle.std.specs.Int.{w128}

-- the difference of two products of distances
pub products_difference : (m n x y : ℤ) → x ≡ m → y ≡ n → unsigned_abs m ≤ 2 ^ 62 → unsigned_abs n ≤ 2 ^ 62
    → to_z w128 (of_z w128 (to_z w128 (of_z w128 x) -ℤ to_z w128 (of_z w128 y))) ≡ m -ℤ n
products_difference m n x y e f h k = omega (arith, ints)

-- the product of a number of 64 bits and a distance
pub product_is : (a b x y : ℤ) → x ≡ a → y ≡ b → unsigned_abs a ≤ 2 ^ 63 → unsigned_abs b ≤ 2 ^ 31
    → to_z w128 (of_z w128 (to_z w128 (of_z w128 x) *ℤ to_z w128 (of_z w128 y))) ≡ a *ℤ b
product_is a b x y e f h k =
    let p : to_z w128 (of_z w128 a) ≡ a = omega (arith, ints) in
    let q : to_z w128 (of_z w128 b) ≡ b = omega (arith, ints) in
    rw (e, f, p, q) (to_z-of_z w128 (a *ℤ b) (fits_signed_mul w128 a b (2 ^ 63) (2 ^ 31) h k (omega arith)))
