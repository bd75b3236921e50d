-- Digits put from the last to the first are the number's text: `digit_more` puts one more, `digit_first` the first.
-- Serves `put_decimal` and `put_signed`, which write before what a buffer has from an offset on.
use Rattle.std.proofs.Common.{◌≡◌, ◌+◌, ◌-◌, ◌*◌, ◌/◌, ◌%◌, ◌^◌, ◌<◌, ◌≤◌, ◌++◌, ◌∷◌, [], zero, suc, length, drop, sym, ap, ◌∙◌}
use Rattle.std.proofs.Common.{arith, List, ℕ, append_assoc, length-append, length-drop, subst, lit<, ℤ, pos, negsuc, unsigned_abs, ◌<ℤ◌, ◌≤ℤ◌, FitsSigned, to_z}
use Rattle.std.proofs.Common.{of_z, w32}
use Rattle.std.proofs.lemmas.Int.{to_z-of_z}
use Rattle.std.proofs.Math.Nat.{div-lt_iff_lt-mul, pow-suc, pow-zero}
use Rattle.std.proofs.Math.ListN.{set}
use Rattle.std.proofs.lemmas.Fmt.{decimal_step, decimal_digit, length-decimal-le}
use Rattle.std.proofs.lemmas.List.{drop-set}
use Rattle.std.specs.Fmt.{decimal, signed_decimal}
use Rattle.fx_fixed.proofs.Linear.{signed}

-- the bytes from the offset of the last write on
pub put_here : (buffer : List ℕ) (at v : ℕ) → 0 < at → at ≤ length buffer
    → drop (at - 1) (set buffer (at - 1) v) ≡ v ∷ drop at buffer
put_here buffer at v some within =
    let back : at - 1 + 1 ≡ at = omega arith in
    drop-set buffer (at - 1) v (omega arith) ∙ ap (λ (i : ℕ). v ∷ drop i buffer) back

-- the digits that are left fit
pub fits_left : (base left m at : ℕ) → 0 < base → at ≡ suc m → left < base ^ at → left / base < base ^ m
fits_left base left m at some e h =
    let P : ℕ → Type 0 = λ n. left < base ^ n in
    let g : left < base ^ suc m = subst P e h in
    let Q : ℕ → Type 0 = λ n. left < n in
    (div-lt_iff_lt-mul some).1 (subst Q (pow-suc base m) g)

-- more than one digit is left, so more than one fits
pub fits_more : (base left m at : ℕ) → at ≡ suc m → base ≤ left → left < base ^ at → 0 < m
fits_more base left zero at e low h =
    let P : ℕ → Type 0 = λ n. left < base ^ n in
    let g : left < base ^ suc zero = subst P e h in
    let Q : ℕ → Type 0 = λ n. left < n in
    let k = subst Q (pow-suc base zero) g in
    absurd (omega (arith, ap (λ (x : ℕ). x * base) (pow-zero base)))
fits_more base left (suc m) at e low h = omega arith

-- no digit was put yet, and there is room for the most
pub fits_first : (base most n end : ℕ) → n < base ^ most → n < base ^ (end + most - end)
fits_first base most n end h =
    let P : ℕ → Type 0 = λ k. n < base ^ k in
    let all : most ≡ end + most - end = omega arith in
    subst P all h

-- one digit more was put
pub digit_more : (text : List ℕ) (left at : ℕ) (buffer : List ℕ) → 0 < at → at ≤ length buffer → 10 ≤ left → left < 2 ^ 64
    → text ≡ decimal left ++ drop at buffer
    → text ≡ decimal (left / 10) ++ drop (at - 1) (set buffer (at - 1) (48 + left % 10))
digit_more text left at buffer some within low high h =
    h ∙ ap (λ (d : List ℕ). d ++ drop at buffer) (decimal_step left low high)
    ∙ append_assoc (decimal (left / 10)) ((48 + left % 10) ∷ []) (drop at buffer)
    ∙ ap (λ (d : List ℕ). decimal (left / 10) ++ d) (sym (put_here buffer at (48 + left % 10) some within))

-- the first digit was put
pub digit_first : (text : List ℕ) (left at : ℕ) (buffer : List ℕ) → 0 < at → at ≤ length buffer → left < 10
    → text ≡ decimal left ++ drop at buffer
    → drop (at - 1) (set buffer (at - 1) (48 + left)) ≡ text
digit_first text left at buffer some within low h =
    put_here buffer at (48 + left) some within ∙ sym (h ∙ ap (λ (d : List ℕ). d ++ drop at buffer) (decimal_digit left low))

-- a number of at most 19 digits leaves a byte of 20
pub fits_before : (n at end : ℕ) (new old : List ℕ) → length new ≡ length old → end ≤ length old → at ≤ end
    → drop at new ≡ decimal n ++ drop end old → n < 10 ^ 19 → n < 2 ^ 64 → end < at + 20
fits_before n at end new old long inside order is few small =
    let digits : length (decimal n) ≤ 19 = length-decimal-le 19 n (lit< tt) few small in
    omega (arith, ap length is, length-append (decimal n) (drop end old), length-drop at new, length-drop end old, long)

-- a signed number that was copied is the number
pub copied : (z : ℤ) → FitsSigned w32 z → to_z w32 (of_z w32 z) ≡ z
copied z fits = to_z-of_z w32 z fits

-- the text of a number that is not below 0
pub signed_above : (z : ℤ) (n : ℕ) → pos 0 ≤ℤ z → FitsSigned w32 z → n ≡ unsigned_abs (to_z w32 (of_z w32 z))
    → decimal n ≡ signed_decimal z
signed_above (pos n) k h fits is = ap decimal (is ∙ ap unsigned_abs (copied (pos n) fits))
signed_above (negsuc n) k h fits is = absurd (omega (arith, signed))

-- the text of a number below 0: its sign, and its size
pub signed_below : (z : ℤ) (n at : ℕ) (buffer rest : List ℕ) → z <ℤ pos 0 → FitsSigned w32 z
    → n ≡ unsigned_abs (to_z w32 (of_z w32 z)) → 0 < at → at ≤ length buffer → drop at buffer ≡ decimal n ++ rest
    → drop (at - 1) (set buffer (at - 1) 45) ≡ signed_decimal z ++ rest
signed_below (pos n) k at buffer rest h fits size some within is = absurd (omega (arith, signed))
signed_below (negsuc n) k at buffer rest h fits size some within is =
    put_here buffer at 45 some within
    ∙ ap (λ (d : List ℕ). 45 ∷ d) (is ∙ ap (λ (m : ℕ). decimal m ++ rest) (size ∙ ap unsigned_abs (copied (negsuc n) fits)))

-- the text of a signed number that was copied, before another
pub copied_before : (rest : List ℕ) {t : List ℕ} {z v : ℤ} → FitsSigned w32 z
    → t ≡ signed_decimal (to_z w32 (of_z w32 z)) ++ rest → z ≡ v
    → t ≡ signed_decimal v ++ rest
copied_before rest {t} {z} {v} fits e is = e ∙ ap (λ (n : ℤ). signed_decimal n ++ rest) (copied z fits ∙ is)
