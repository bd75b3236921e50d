-- A value in a font at a valid size needs no wrapping: `exact_of`.
-- For the clauses of `scaled`.
use Rattle.std.proofs.Common.{◌≡◌, ◌≢◌, ℕ, ◌+◌, ◌≤◌, ◌<◌, ◌^◌, ◌*◌, ℤ, pos, ◌*ℤ◌, ◌-ℤ◌}
use Rattle.std.proofs.Common.{unsigned_abs, FitsSigned, arith, refl}
use Rattle.std.proofs.lemmas.Int.{ints, int_wrap_fits, unsigned_abs-mul}
use Rattle.std.proofs.Math.Nat.{mul-le-mul, mul-le-mul_left}
use Rattle.std.specs.Int.{w32}
use Rattle.fx_fixed.specs.Numbers.{IsNear, Nearest, near_of, wrapped_of}
use Rattle.fx_fixed.proofs.Rounding.{near_of_is_near}
use Rattle.fx_fixed.specs.Sizes.{IsPpem}
use Rattle.fx_sfnt.specs.Units.{IsUnitsPerEm}

fits_alone : (r : ℤ) → unsigned_abs r < 2 ^ 31 → FitsSigned w32 r
fits_alone r h = omega (arith, ints)

pub unwrapped : (r : ℤ) → unsigned_abs r < 2 ^ 31 → wrapped_of r ≡ r
unfolding wrapped_of
unwrapped r h = int_wrap_fits w32 r (fits_alone r h)

-- a value of at most m FUnits times the 1/64 pixels of an em
product_within : (m : ℕ) (v : ℤ) (p : ℕ) → unsigned_abs v ≤ m → IsPpem p → unsigned_abs (v *ℤ pos (p * 64)) ≤ m * 65536
product_within m v p h k = grind (arith, mul-le-mul, unsigned_abs-mul)

-- what is near a number is no farther out than it and half the divisor
no_farther : (n m : ℤ) (d : ℕ) → 2 * unsigned_abs (n -ℤ m) ≤ d → 2 * unsigned_abs m ≤ 2 * unsigned_abs n + d
no_farther n m d h = omega (arith, ints)

-- the same of a quotient, whose divisor is at least 16 and at most 16,384
quotient_within : (n q : ℤ) (d m : ℕ) → unsigned_abs n ≤ m → IsNear n (pos d) q → IsUnitsPerEm d
    → 2 * (unsigned_abs q * 16) ≤ 2 * m + 16384
quotient_within n q d m h near u = grind (arith, mul-le-mul_left, no_farther, unsigned_abs-mul)

-- a value of at most m FUnits at a valid size
pub within : (m : ℕ) (v : ℤ) (p d : ℕ) (n q : ℤ) → n ≡ v *ℤ pos (p * 64) → Nearest n (pos d) q → unsigned_abs v ≤ m → IsPpem p
    → IsUnitsPerEm d → 2 * (unsigned_abs q * 16) ≤ 2 * (m * 65536) + 16384
unfolding Nearest
within m v p d n q e near h k u = grind (arith, product_within, quotient_within)

not_zero : (d : ℕ) → IsUnitsPerEm d → pos d ≢ pos 0
not_zero d u = λ e. let l = u.least in omega (arith, ints, e)

-- what a value of the font is near
pub near_within : (v : ℤ) (p d : ℕ) → unsigned_abs v ≤ 2 ^ 16 → IsPpem p → IsUnitsPerEm d
    → unsigned_abs (near_of (v *ℤ pos (p * 64)) (pos d)) < 2 ^ 31
unfolding Nearest
near_within v p d h k u =
    let q = near_of (v *ℤ pos (p * 64)) (pos d) in
    let s = within (2 ^ 16) v p d (v *ℤ pos (p * 64)) q refl (near_of_is_near (v *ℤ pos (p * 64)) (pos d) (not_zero d u)) h k u in
    omega (arith, s)

-- what a value of the font is near is small
pub near_small : (v : ℤ) (p d : ℕ) → unsigned_abs v ≤ 65535 → IsPpem p → IsUnitsPerEm d
    → unsigned_abs (near_of (v *ℤ pos (p * 64)) (pos d)) ≤ 2 ^ 28
unfolding Nearest
near_small v p d h k u =
    let q = near_of (v *ℤ pos (p * 64)) (pos d) in
    let s = within 65535 v p d (v *ℤ pos (p * 64)) q refl (near_of_is_near (v *ℤ pos (p * 64)) (pos d) (not_zero d u)) h k u in
    omega (arith, s)

-- it needs no wrapping
pub exact_of : (v : ℤ) (p d : ℕ) → unsigned_abs v ≤ 2 ^ 16 → IsPpem p → IsUnitsPerEm d
    → wrapped_of (near_of (v *ℤ pos (p * 64)) (pos d)) ≡ near_of (v *ℤ pos (p * 64)) (pos d)
exact_of v p d h k u = unwrapped (near_of (v *ℤ pos (p * 64)) (pos d)) (near_within v p d h k u)
