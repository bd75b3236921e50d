-- A value is scaled by its size and its sign: `of_positive`, `of_negative`.
-- Serves `Factors`.
use Rattle.std.proofs.Common.{◌≡◌, ℕ, zero, suc, ◌*◌, ◌<◌, ℤ, pos, negsuc, ◌*ℤ◌, ◌<ℤ◌, ◌≤ℤ◌, unsigned_abs, refl, ap, arith}
use Rattle.std.proofs.Common.{sym}
use Rattle.std.proofs.Math.IntN.{neg_ℤ, pos-*ℤ-pos}
use Rattle.std.proofs.lemmas.Int.{ints}
use Rattle.fx_fixed.specs.Numbers.{near_of, near_size}
use Rattle.fx_fixed.proofs.Dividing.{size_bound}

near_negative : (m d : ℕ) → 0 < d → near_of (neg_ℤ (pos m)) (pos d) ≡ neg_ℤ (pos (near_size m d))
unfolding near_of
near_negative zero d h = let z : near_size 0 d ≡ 0 = (let b = size_bound 0 d (λ e. omega arith) in omega arith) in rw z refl
near_negative (suc m) d h = refl

pub of_positive : (v : ℤ) (size em d q : ℕ) → size ≡ unsigned_abs v → q ≡ near_size (size * em) d → pos 0 ≤ℤ v
    → pos q ≡ near_of (v *ℤ pos em) (pos d)
unfolding near_of
of_positive (pos n) size em d q e f h = rw (f, e) (sym (ap (λ (k : ℤ). near_of k (pos d)) (pos-*ℤ-pos n em)))
of_positive (negsuc n) size em d q e f h = absurd (omega (arith, ints, h))

pub of_negative : (v : ℤ) (size em d q : ℕ) → size ≡ unsigned_abs v → q ≡ near_size (size * em) d → v <ℤ pos 0 → 0 < d
    → neg_ℤ (pos q) ≡ near_of (v *ℤ pos em) (pos d)
of_negative (pos n) size em d q e f h l = absurd (omega (arith, ints, h))
of_negative (negsuc n) size em d q e f h l = grind (arith, near_negative)
