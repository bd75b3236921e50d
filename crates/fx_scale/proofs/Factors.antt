-- A value times a factor, in parts of which 2^32 are one, is the value scaled: `multiplied`.
-- For `Factor`.
use Rattle.std.proofs.Common.{◌≡◌, ℕ, suc, ◌+◌, ◌-◌, ◌*◌, ◌/◌, ◌<◌, ◌≤◌, ◌^◌, ℤ, pos, negsuc}
use Rattle.std.proofs.Common.{◌+ℤ◌, ◌-ℤ◌, ◌*ℤ◌, refl, sym, ap, ◌∙◌, arith, unsigned_abs, FitsSigned, to_z, of_z, to_z-of_z}
use Rattle.std.proofs.Common.{◌⊎◌, inl, inr}
use Rattle.std.proofs.Math.Nat.{mul_assoc, mul_right_comm, div-mul-le_self, lt-div-mul-add, div-eq_of_lt-le, div-eq_of_lt, add-mul, mul-add}
use Rattle.std.proofs.Math.Nat.{le_trans, div-le_of_le-mul, mul-le-mul, mul-le-mul_left, mul-le-mul_right, lt_of_mul-lt-mul_right, le_of_mul-le-mul_right}
use Rattle.std.proofs.Math.IntN.{neg_ℤ}
use Rattle.std.proofs.lemmas.Int.{ints, unsigned_abs-mul}
use Rattle.std.proofs.lemmas.Bool.{cases_lt}
use Rattle.std.specs.Int.{w32, w64}
use Rattle.std.specs.Int.Signed.{shr_z}
use Rattle.fx_fixed.specs.Sizes.{IsPpem}
use Rattle.fx_fixed.specs.Numbers.{near_of, near_size}
use Rattle.fx_sfnt.specs.Units.{IsUnitsPerEm}
use Rattle.fx_scale.proofs.Exact.{near_small}
use Rattle.fx_scale.proofs.Signs.{of_positive, of_negative}

-- a rounded quotient between its neighbours
near_from : (n u : ℕ) → 0 < u → near_size n u * u + near_size n u * u ≤ 2 * n + u
near_from n u l = grind (arith, div-mul-le_self)

near_to : (n u : ℕ) → 0 < u → 2 * n + u < near_size n u * u + near_size n u * u + 2 * u
near_to n u l = grind (arith, lt-div-mul-add)

-- the product t of m FUnits, times the FUnits u of an em of e: it lies above what is exact, by at most a part for each FUnit
record Product (m e u t : ℕ) : Type 0 where
  above : m * e * 4294967296 + m ≤ t * u
  close : t * u ≤ m * e * 4294967296 + m * u

product : (m e u : ℕ) → 0 < u → Product m e u (m * (e * 4294967296 / u + 1))
product m e u l =
    let q = e * 4294967296 / u in
    let from : q * u ≤ e * 4294967296 = div-mul-le_self (e * 4294967296) u in
    let to : e * 4294967296 < q * u + u = grind (arith, lt-div-mul-add) in
    let f : (q + 1) * u ≡ q * u + 1 * u = add-mul q 1 u in
    let t : m * (q + 1) * u ≡ m * ((q + 1) * u) = mul_assoc m (q + 1) u in
    let low : m * (e * 4294967296 + 1) ≤ m * ((q + 1) * u) = mul-le-mul_left m (omega (arith, f, to)) in
    let high : m * ((q + 1) * u) ≤ m * (e * 4294967296 + u) = mul-le-mul_left m (omega (arith, f, from)) in
    record {
      above = omega (arith, low, t, mul-add m (e * 4294967296) 1, mul_assoc m e 4294967296);
      close = omega (arith, high, t, mul-add m (e * 4294967296) u, mul_assoc m e 4294967296);
    }

-- a number of parts with some more, times u
parts_times : (k c u : ℕ) → (k * 4294967296 + c) * u ≡ k * u * 4294967296 + c * u
parts_times k c u = omega (arith, add-mul (k * 4294967296) c u, mul_right_comm k 4294967296 u)

-- the quotient of a value of 0 or more
up : (m e u t : ℕ) → m * u < 2147483648 → 0 < u → Product m e u t → (t + 2147483648) / 4294967296 ≡ near_size (m * e) u
up m e u t few l p =
    let k = near_size (m * e) u in
    let f = near_from (m * e) u l in
    let g = near_to (m * e) u l in
    let above = p.above in
    let close = p.close in
    let s : (t + 2147483648) * u ≡ t * u + 2147483648 * u = add-mul t 2147483648 u in
    let n : (k + 1) * u ≡ k * u + 1 * u = add-mul k 1 u in
    let from : k * 4294967296 + 0 ≤ t + 2147483648 = le_of_mul-le-mul_right (omega (arith, f, above, s, parts_times k 0 u)) l in
    let to : t + 2147483648 < (k + 1) * 4294967296 + 0 =
    lt_of_mul-lt-mul_right u (omega (arith, g, close, s, n, few, parts_times (k + 1) 0 u)) in
    div-eq_of_lt-le {k = k} 4294967296 (omega (arith, from)) (omega (arith, to))

-- that of a value below 0 whose product is at most half of one
none : (m e u t : ℕ) → 0 < m → 0 < u → Product m e u t → t ≤ 2147483648 → near_size (m * e) u ≡ 0
none m e u t some l p few =
    let f = near_from (m * e) u l in
    let above = p.above in
    let h : t * u ≤ 2147483648 * u = mul-le-mul_right u few in
    let small : near_size (m * e) u * u < 1 * u = omega (arith, some, f, above, h) in
    let less : near_size (m * e) u < 1 = lt_of_mul-lt-mul_right u small in
    omega (arith, less)

-- that of any other, less one
down : (m e u t : ℕ) → 0 < m → m * u < 2147483648 → 0 < u → Product m e u t → 2147483648 < t
    → (t - 2147483648 - 1) / 4294967296 + 1 ≡ near_size (m * e) u
down m e u t some few l p much =
    let k = near_size (m * e) u in
    let f = near_from (m * e) u l in
    let g = near_to (m * e) u l in
    let above = p.above in
    let close = p.close in
    let h : 2147483649 * u ≤ t * u = mul-le-mul_right u much in
    let small : 0 * u < k * u = omega (arith, close, g, few, h, l) in
    let some_k : 0 < k = lt_of_mul-lt-mul_right u small in
    let less : k - 1 + 1 ≡ k = omega (arith, some_k) in
    let back : k * u ≡ (k - 1) * u + u = sym (ap (λ (x : ℕ). x * u) less) ∙ add-mul (k - 1) 1 u ∙ omega arith in
    let from : (k - 1) * 4294967296 + 2147483648 < t =
    lt_of_mul-lt-mul_right u (omega (arith, f, above, back, some, parts_times (k - 1) 2147483648 u)) in
    let to : t ≤ k * 4294967296 + 2147483648 =
    le_of_mul-le-mul_right (omega (arith, g, close, few, parts_times k 2147483648 u)) l in
    let q : (t - 2147483648 - 1) / 4294967296 ≡ k - 1 =
    div-eq_of_lt-le {k = k - 1} 4294967296 (omega (arith, from)) (omega (arith, to, less, much)) in
    omega (arith, q, less)

-- the quotient of a value below 0, as its product is at most half of one or more
below : (m e u t : ℕ) (z : ℤ) → 0 < m → m * u < 2147483648 → 0 < u → Product m e u t → z ≡ pos 2147483648 -ℤ pos t
    → (2147483648 < t) ⊎ (t ≤ 2147483648) → shr_z z 4294967296 ≡ neg_ℤ (pos (near_size (m * e) u))
below m e u t z some few l p s (inr little) =
    let zero_size = none m e u t some l p little in
    let at : z ≡ pos (2147483648 - t) = omega (arith, ints, s, little) in
    let q : (2147483648 - t) / 4294967296 ≡ 0 = div-eq_of_lt (omega arith) in
    rw (at, q, zero_size) refl
below m e u t z some few l p s (inl much) =
    let q = down m e u t some few l p much in
    let at : z ≡ negsuc (t - 2147483648 - 1) = omega (arith, ints, s, much) in
    let size : near_size (m * e) u ≡ suc ((t - 2147483648 - 1) / 4294967296) = omega (arith, q) in
    rw (at, size) refl

-- how few parts a value's product can have too much
few_parts : (m u : ℕ) → m ≤ 65535 → u ≤ 16384 → m * u < 2147483648
few_parts m u h k = let b : m * u ≤ 65535 * 16384 = mul-le-mul h k in omega (arith, b)

quotient_of : (v : ℤ) (e u : ℕ) → unsigned_abs v ≤ 65535 → 0 < u → u ≤ 16384
    → shr_z (v *ℤ pos (e * 4294967296 / u + 1) +ℤ pos 2147483648) 4294967296 ≡ near_of (v *ℤ pos e) (pos u)
quotient_of (pos m) e u h l k =
    let few = few_parts m u (omega (arith, ints, h)) k in
    of_positive (pos m) m e u _ refl (up m e u _ few l (product m e u l)) (omega (arith, ints))
quotient_of (negsuc m) e u h l k =
    let one : suc m ≡ m + 1 = omega arith in
    let q = e * 4294967296 / u + 1 in
    let t : suc m * q ≡ (m + 1) * q = ap (λ (n : ℕ). n * q) one in
    below (m + 1) e u ((m + 1) * q) _ (omega arith) (few_parts (m + 1) u (omega (arith, ints, h)) k) l (product (m + 1) e u l)
    (omega (arith, ints, t)) (cases_lt _ _)
    ∙ of_negative (negsuc m) (m + 1) e u (near_size ((m + 1) * e) u) (omega arith) refl (omega (arith, ints)) l

-- a value's product and half of one, as they are computed in words
abbrev pub words : ℤ → ℤ → ℤ
words v f = to_z w64 (of_z w64 (to_z w64 (of_z w64 v) *ℤ to_z w64 (of_z w64 f))) +ℤ pos 2147483648

pub record Multiplied (v f r : ℤ) : Type 0 where
  pub product_fits : FitsSigned w64 (to_z w64 (of_z w64 v) *ℤ to_z w64 (of_z w64 f))
  pub fits : FitsSigned w64 (words v f)
  pub value : shr_z (to_z w64 (of_z w64 (words v f))) 4294967296 ≡ r
  pub small : unsigned_abs r ≤ 2 ^ 28
  pub cast : to_z w32 (of_z w32 (to_z w64 (of_z w64 r))) ≡ r

-- a factor has few parts
few_in_factor : (ppem u : ℕ) → IsPpem ppem → IsUnitsPerEm u → ppem * 64 * 4294967296 / u + 1 ≤ 17592186044417
few_in_factor ppem u size units =
    let most = size.most in
    let least = units.least in
    let d : ppem * 64 * 4294967296 / u ≤ 17592186044416 = div-le_of_le-mul u (le_trans (omega (arith, most))
    (mul-le-mul_right 17592186044416 least)) in
    omega (arith, d)

pub multiplied : (v f : ℤ) (ppem u : ℕ) → IsPpem ppem → IsUnitsPerEm u → unsigned_abs v ≤ 65535
    → f ≡ pos (ppem * 64 * 4294967296 / u + 1) → Multiplied v f (near_of (v *ℤ pos (ppem * 64)) (pos u))
multiplied v f ppem u size units few ef =
    let least = units.least in
    let most_u = units.most in
    let few_parts = few_in_factor ppem u size units in
    let factor : unsigned_abs f ≤ 17592186044417 = omega (arith, ints, ef, few_parts) in
    let product = mul-le-mul few factor in
    let same_v : to_z w64 (of_z w64 v) ≡ v = omega (arith, ints, few) in
    let same_f : to_z w64 (of_z w64 f) ≡ f = omega (arith, ints, factor) in
    let small : unsigned_abs (v *ℤ f) ≤ 2 ^ 61 = omega (arith, product, unsigned_abs-mul v f) in
    let same : to_z w64 (of_z w64 (v *ℤ f)) ≡ v *ℤ f = omega (arith, ints, small) in
    let sum : words v f ≡ v *ℤ f +ℤ pos 2147483648 = rw (same_v, same_f, same) refl in
    let fits_sum : FitsSigned w64 (words v f) = rw sum (omega (arith, ints, small)) in
    let near = near_small v ppem u few size units in
    record {
      product_fits = rw (same_v, same_f) (omega (arith, ints, small));
      fits = fits_sum;
      value = rw (to_z-of_z fits_sum, sum, ef) (quotient_of v (ppem * 64) u few (omega (arith, least)) most_u);
      small = near;
      cast = omega (arith, ints, near);
    }
