-- A product is no larger than the product of its factors' bounds, so numbers of twice the bits hold it: `product_size`.
-- For `product` and `wide_product`, and for products of signed numbers in all crates.
use Rattle.std.proofs.Common.{◌≡◌, ℕ, ◌*◌, ◌<◌, ◌≤◌, ◌^◌, ℤ, pos, negsuc, ◌*ℤ◌, unsigned_abs, mul-le-mul, FitsSigned, to_z, of_z, arith}
use Rattle.std.specs.Int.{Width}
use Rattle.std.proofs.lemmas.Int.{to_z-of_z, fits_signed_mul, fits_signed_from_abs, unsigned_abs-mul}
use Rattle.fx_fixed.proofs.Linear.{signed_linear}
use Rattle.fx_fixed.specs.Ranges.{IsWithin}
use mir.Val.{hbits}

pub product_size : (m n : ℕ) (a b : ℤ) → unsigned_abs a ≤ m → unsigned_abs b ≤ n → unsigned_abs (a *ℤ b) ≤ m * n
product_size m n a b h k = rw (unsigned_abs-mul a b) (mul-le-mul h k)

-- ---- the same of ranges

size_within : (m : ℕ) (a : ℤ) → IsWithin m a → unsigned_abs a ≤ m
size_within m (pos a) h = omega (arith, signed_linear)
size_within m (negsuc a) h = omega (arith, signed_linear)

within_size : (m : ℕ) (a : ℤ) → unsigned_abs a ≤ m → IsWithin m a
within_size m a h = (omega (arith, signed_linear), omega (arith, signed_linear))

pub product_within : (m n : ℕ) (a b : ℤ) → IsWithin m a → IsWithin n b → IsWithin (m * n) (a *ℤ b)
product_within m n a b h k = within_size (m * n) (a *ℤ b) (product_size m n a b (size_within m a h) (size_within n b k))

-- ---- numbers of v bits, made ones of w bits

pub size_fitting : (v : Width) (a : ℤ) → FitsSigned v a → unsigned_abs a ≤ 2 ^ hbits v
size_fitting v (pos a) f = omega (arith, signed_linear)
size_fitting v (negsuc a) f = omega (arith, signed_linear)

pub product_widened : (v w : Width) (a b x y : ℤ) → FitsSigned v a → FitsSigned v b → x ≡ to_z v (of_z v a) → y ≡ to_z v (of_z v b)
    → 2 ^ hbits v < 2 ^ hbits w → 2 ^ hbits v * 2 ^ hbits v < 2 ^ hbits w
    → to_z w (of_z w (to_z w (of_z w x) *ℤ to_z w (of_z w y))) ≡ a *ℤ b
product_widened v w a b x y fa fb ex ey wide twice =
    let sa = size_fitting v a fa in
    let sb = size_fitting v b fb in
    let ca : to_z w (of_z w a) ≡ a = to_z-of_z w a (fits_signed_from_abs w a (omega arith)) in
    let cb : to_z w (of_z w b) ≡ b = to_z-of_z w b (fits_signed_from_abs w b (omega arith)) in
    rw (ex, ey, to_z-of_z v a fa, to_z-of_z v b fb, ca, cb)
    (to_z-of_z w (a *ℤ b) (fits_signed_mul w a b (2 ^ hbits v) (2 ^ hbits v) sa sb twice))
