-- 64 bits hold the quotient of 64 times a number of 32 bits: `quotient_is`.
-- It serves the row DIV.
use Rattle.std.proofs.Common.{◌≡◌, suc, ◌/◌, ◌≤◌, ◌^◌, ℤ, pos, negsuc, FitsSigned, unsigned_abs, to_z, of_z, arith, ◌*ℤ◌}
use Rattle.std.proofs.lemmas.Int.{to_z-of_z, fits_signed_from_abs, ints}
use Rattle.std.proofs.Math.Nat.{div-le_self}
use Rattle.std.specs.Int.{w32, w64}
use Rattle.std.specs.Int.RustNames.{int_div}
use Rattle.fx_fixed.specs.Numbers.{cut_of}

-- a quotient is no larger than the number that is divided
quotient_size : (n d : ℤ) → unsigned_abs (int_div n d) ≤ unsigned_abs n
quotient_size (pos n) (pos d) = div-le_self n d
quotient_size (pos n) (negsuc d) = let h : n / suc d ≤ n = div-le_self n (suc d) in omega (arith, ints)
quotient_size (negsuc n) (pos d) = let h : suc n / d ≤ suc n = div-le_self (suc n) d in omega (arith, ints)
quotient_size (negsuc n) (negsuc d) = div-le_self (suc n) (suc d)

-- 64 times a number, by another
pub quotient_is : (a b x y : ℤ) → x ≡ a → y ≡ b → FitsSigned w32 a → FitsSigned w32 b
    → to_z w64 (of_z w64 (int_div (to_z w64 (of_z w64 (pos 64 *ℤ to_z w64 (of_z w64 x)))) (to_z w64 (of_z w64 y))))
    ≡ cut_of (pos 64 *ℤ a) b
unfolding cut_of
quotient_is a b x y e f fa fb =
    let small : unsigned_abs (pos 64 *ℤ a) ≤ 2 ^ 37 = omega (arith, ints) in
    let least = quotient_size (pos 64 *ℤ a) b in
    let p : to_z w64 (of_z w64 a) ≡ a = omega (arith, ints) in
    let d : to_z w64 (of_z w64 b) ≡ b = omega (arith, ints) in
    let n : to_z w64 (of_z w64 (pos 64 *ℤ a)) ≡ pos 64 *ℤ a = omega (arith, ints) in
    let q : FitsSigned w64 (int_div (pos 64 *ℤ a) b) = fits_signed_from_abs w64 _ (omega (arith, least, small)) in
    rw (e, f, p, d, n) (to_z-of_z w64 (int_div (pos 64 *ℤ a) b) q)
