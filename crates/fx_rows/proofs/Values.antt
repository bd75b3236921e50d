-- A value that rises evenly is, at each column, what the code's sums and products of words give: `value_held`.
-- Serves `is_zero_at`, `moved`, and numbers that words hold.
use Rattle.std.proofs.Common.{◌≡◌, ◌∙◌, ℕ, ◌^◌, ◌<◌, ℤ, pos, ◌+ℤ◌, ◌*ℤ◌, FitsSigned, arith, w64, to_z, of_z}
use Rattle.std.specs.Int.{Width}
use Rattle.std.proofs.lemmas.Int.{to_z-of_z}
use Rattle.fx_fixed.proofs.Linear.{signed_linear}
use Rattle.fx_fixed.specs.Ranges.{IsWithin}
use Rattle.fx_fixed.proofs.Bounds.{product_within}
use mir.Val.{hbits}

-- a number that its word can hold, and one with the other sign
pub kept_within : (w : Width) {n : ℕ} (z : ℤ) → IsWithin n z → n < 2 ^ hbits w → to_z w (of_z w z) ≡ z
kept_within w z h l = omega (arith, signed_linear, h, l)

-- a number as a register holds it
abbrev pub held : ℤ → ℤ
held z = to_z w64 (of_z w64 z)

-- nothing is lost in s + n t, where n is k
pub record IsKept (s t n : ℤ) (k : ℕ) : Type 0 where
  pub product_fits : FitsSigned w64 (held n *ℤ held t)
  pub sum_fits : FitsSigned w64 (held s +ℤ held (held n *ℤ held t))
  pub value : held s +ℤ held (held n *ℤ held t) ≡ s +ℤ pos k *ℤ t

pub value_kept : (s t n : ℤ) (k : ℕ) → n ≡ pos k → k < 65536 → IsWithin (2 ^ 62) s → IsWithin (2 ^ 40) t → IsKept s t n k
value_kept s t n k e few hs ht =
    let p = product_within 65536 (2 ^ 40) (pos k) t (omega (arith, signed_linear), omega (arith, signed_linear)) ht in
    let es : held s ≡ s = omega (arith, signed_linear) in
    let et : held t ≡ t = omega (arith, signed_linear) in
    let en : held n ≡ pos k = omega (arith, signed_linear) in
    let ep : held (pos k *ℤ t) ≡ pos k *ℤ t = omega (arith, signed_linear, p) in
    let fp : FitsSigned w64 (pos k *ℤ t) = omega (arith, signed_linear, p) in
    let fs : FitsSigned w64 (s +ℤ pos k *ℤ t) = omega (arith, signed_linear, p) in
    let v : held s +ℤ held (held n *ℤ held t) ≡ s +ℤ pos k *ℤ t = (λ i. es i +ℤ held (en i *ℤ et i)) ∙ (λ i. s +ℤ ep i) in
    record { product_fits = rw (en, et) fp; sum_fits = rw v fs; value = v }

pub value_held : (s t n : ℤ) (k : ℕ) → IsKept s t n k → held (held s +ℤ held (held n *ℤ held t)) ≡ s +ℤ pos k *ℤ t
value_held s t n k h = to_z-of_z w64 _ h.sum_fits ∙ h.value
