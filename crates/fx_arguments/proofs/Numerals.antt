-- A number goes on after a digit (`number_after_step`), and a row of numbers by the next one (`numbers_more`).
-- Serves `number`, `push_range` and the items of a list.
use Rattle.std.proofs.Common.{◌≡◌, ◌∙◌, ℕ, zero, suc, ◌+◌, ◌*◌, ◌^◌, ◌<◌, ◌≤◌, List, [], ◌∷◌, ◌++◌, length, get_or, take, drop, refl, sym}
use Rattle.std.specs.Prelude.{slice_set}
use Rattle.std.proofs.Common.{ap, arith, Some, None, option_and_then, add-one}
use Rattle.std.proofs.Math.Seq.{drop-cons}
use Rattle.std.proofs.lemmas.List.{take_more_set}
use Rattle.std.proofs.lemmas.Grind.{common_steps}
use Rattle.hex.specs.Hex.{hex_digit_value}
use Rattle.fx_arguments.specs.Chars.{number_after, number_of, numbers_from}

-- one digit more
pub below_power : (i n d : ℕ) → i < 6 → n < 16 ^ i → d < 16 → n * 16 + d < 16 ^ (i + 1)
below_power zero n d low h g = omega arith
below_power (suc zero) n d low h g = omega arith
below_power (suc (suc zero)) n d low h g = omega arith
below_power (suc (suc (suc zero))) n d low h g = omega arith
below_power (suc (suc (suc (suc zero)))) n d low h g = omega arith
below_power (suc (suc (suc (suc (suc zero))))) n d low h g = omega arith
below_power (suc (suc (suc (suc (suc (suc i)))))) n d low h g = absurd (omega arith)

pub below_top : (i n : ℕ) → i ≤ 6 → n < 16 ^ i → n < 16777216
below_top zero n low h = omega arith
below_top (suc zero) n low h = omega arith
below_top (suc (suc zero)) n low h = omega arith
below_top (suc (suc (suc zero))) n low h = omega arith
below_top (suc (suc (suc (suc zero)))) n low h = omega arith
below_top (suc (suc (suc (suc (suc zero))))) n low h = omega arith
below_top (suc (suc (suc (suc (suc (suc zero)))))) n low h = omega arith
below_top (suc (suc (suc (suc (suc (suc (suc i))))))) n low h = absurd (omega arith)

number_after_cons : (n d : ℕ) (ds : List ℕ)
    → number_after n (d ∷ ds) ≡ option_and_then (λ value. number_after (n * 16 + value) ds) (hex_digit_value d)
unfolding number_after
number_after_cons n d ds = refl

pub number_after_nil : (n : ℕ) → number_after n [] ≡ Some n
unfolding number_after
number_after_nil n = refl

number_after_at : (n i : ℕ) (ds : List ℕ) → i < length ds
    → number_after n (drop i ds) ≡ option_and_then (λ value. number_after (n * 16 + value) (drop (i + 1) ds))
    (hex_digit_value (get_or ds i 0))
number_after_at n i ds h = ap (number_after n) (drop-cons ds i 0 h) ∙ number_after_cons n (get_or ds i 0) (drop (suc i) ds) ∙
    ap (λ (j : ℕ). option_and_then (λ value. number_after (n * 16 + value) (drop j ds)) (hex_digit_value (get_or ds i 0)))
    (sym (add-one i))

-- the number continues after a digit
pub number_after_step : (n i v : ℕ) (ds : List ℕ) → i < length ds → hex_digit_value (get_or ds i 0) ≡ Some v
    → number_after n (drop i ds) ≡ number_after (n * 16 + v) (drop (i + 1) ds)
number_after_step n i v ds h e =
    number_after_at n i ds h ∙ ap (option_and_then (λ value. number_after (n * 16 + value) (drop (i + 1) ds))) e

-- there is none if a byte is not a digit
pub number_after_none : (n i : ℕ) (ds : List ℕ) → i < length ds → hex_digit_value (get_or ds i 0) ≡ None
    → number_after n (drop i ds) ≡ None
number_after_none n i ds h e =
    number_after_at n i ds h ∙ ap (option_and_then (λ value. number_after (n * 16 + value) (drop (i + 1) ds))) e

pub number_after_end : (n i : ℕ) (ds : List ℕ) → length ds ≤ i → number_after n (drop i ds) ≡ Some n
number_after_end n i ds h =
    let e : drop i ds ≡ [] = grind (arith, common_steps) in
    ap (number_after n) e ∙ number_after_nil n

pub number_of_is : (text : List ℕ) → 0 < length text → length text ≤ 6 → number_of text ≡ number_after 0 text
unfolding number_of
number_of_is text h g = grind (arith, common_steps)

-- rows of numbers
pub numbers_from_zero : (low : ℕ) → numbers_from low 0 ≡ []
unfolding numbers_from
numbers_from_zero low = refl

numbers_from_suc : (low count : ℕ) → numbers_from low (suc count) ≡ low ∷ numbers_from (low + 1) count
unfolding numbers_from
numbers_from_suc low count = refl

numbers_push : (low count : ℕ) → numbers_from low (suc count) ≡ numbers_from low count ++ (low + count) ∷ []
numbers_push low zero = numbers_from_suc low 0 ∙ ap (λ (xs : List ℕ). low ∷ xs) (numbers_from_zero (low + 1)) ∙
    ap (λ (n : ℕ). n ∷ []) (omega arith) ∙ ap (λ (xs : List ℕ). xs ++ (low + 0) ∷ []) (sym (numbers_from_zero low))
numbers_push low (suc count) =
    let last : low + 1 + count ≡ low + suc count = omega arith in
    numbers_from_suc low (suc count)
    ∙ ap (λ (xs : List ℕ). low ∷ xs) (numbers_push (low + 1) count ∙ ap (λ (n : ℕ). numbers_from (low + 1) count ++ n ∷ []) last)
    ∙ ap (λ (xs : List ℕ). xs ++ (low + suc count) ∷ []) (sym (numbers_from_suc low count))

pub numbers_more : (low count : ℕ) → numbers_from low (count + 1) ≡ numbers_from low count ++ (low + count) ∷ []
numbers_more low count = ap (numbers_from low) (add-one count) ∙ numbers_push low count

-- the next number is written after the others
pub numbers_put : (xs : List ℕ) (low k x : ℕ) → k < length xs → x ≡ low + k → take k xs ≡ numbers_from low k
    → take (k + 1) (slice_set xs k x) ≡ numbers_from low (k + 1)
numbers_put xs low k x h e before =
    take_more_set xs k x h ∙ ap (λ (l : List ℕ). l ++ x ∷ []) before ∙ ap (λ (y : ℕ). numbers_from low k ++ y ∷ []) e
    ∙ sym (numbers_more low k)

pub length-numbers_from : (low count : ℕ) → length (numbers_from low count) ≡ count
length-numbers_from low zero = ap (length {A = ℕ}) (numbers_from_zero low)
length-numbers_from low (suc count) =
    ap (length {A = ℕ}) (numbers_from_suc low count) ∙ ap suc (length-numbers_from (low + 1) count)

pub number_of_no : (text : List ℕ) → length text ≡ 0 → number_of text ≡ None
unfolding number_of
number_of_no text h = grind (arith, common_steps)

pub number_of_long : (text : List ℕ) → 6 < length text → number_of text ≡ None
unfolding number_of
number_of_long text h = grind (arith, common_steps)

pub ruleset number_steps = (number_after_none, number_after_end, number_of_is, number_of_no, number_of_long)
