-- One bit set in a bitmap's words sets that pixel (`bit_here`) and changes no other (`bit_elsewhere`).
-- Serves `set` of bitmaps.
use Rattle.std.proofs.Common.{◌≡◌, ◌≢◌, ◌⊎◌, inl, inr, refl, sym, ap, ◌∙◌, ℕ, suc, ◌+◌, ◌*◌, ◌/◌, ◌<◌, ◌≤◌}
use Rattle.std.proofs.Common.{ℤ, Bool, true, false, List, [], length, take, drop, get_or, length-drop, arith}
use Rattle.std.specs.Prelude.{◌==◌}
use Rattle.std.proofs.lemmas.List.{length-take-le, get_or-take, get_or-drop, get_or-map}
use Rattle.std.proofs.Math.Nat.{mul-le-mul_right}
use Rattle.std.proofs.lemmas.Bool.{cases_order}
use Rattle.fx_fixed.proofs.Linear.{signed_linear}
use Rattle.fx_winding.specs.declared.frame.Frame.{Frame}
use Rattle.fx_winding.specs.Frames.{IsFrom, is_from, steps}
use Rattle.fx_winding.specs.Bitmaps.{Bits, AreWords, words_for, word_bit, bits_in, cut, rows_of, bit_of, bit_number}
use Rattle.fx_winding.proofs.Grid.{length-cut, cut-row, row_fits, bits_in-at, steps_below, from_true, grid}
use Rattle.fx_winding.proofs.Scanned.{from_is, steps_back}

word_bit-part : (size n k : ℕ) (xs : List ℕ) → k < 32 * size → word_bit (take size (drop n xs)) k ≡ word_bit xs (32 * n + k)
word_bit-part size n k xs h = grind (arith, signed_linear, h, get_or-take, get_or-drop)

word_bit-cut : (count size up k : ℕ) (xs : List ℕ) → up < count → k < 32 * size
    → word_bit (get_or (cut count size xs) up []) k ≡ word_bit xs (32 * (up * size) + k)
word_bit-cut count size up k xs h l = ap (λ ys. word_bit ys k) (cut-row count size xs up h) ∙ word_bit-part size (up * size) k xs l

pub words_hold : (width across : ℕ) → across < width → across < 32 * words_for width
words_hold width across h = omega arith

-- the bit of a pixel of the frame, by its number
pub bit_of-number : (f : Frame) (xs : List ℕ) (col row : ℤ) → IsFrom f.left f.width col → IsFrom f.bottom f.height row
    → bit_of (grid f xs) col row ≡ (word_bit xs (bit_number f col row) == 1)
bit_of-number f xs col row c r =
    let hc = from_is f.left f.width col c in
    let hr = from_is f.bottom f.height row r in
    let up = steps f.bottom row in
    let across = steps f.left col in
    let size = words_for f.width in
    let within = steps_below f.left f.width col c in
    let inside = steps_below f.bottom f.height row r in
    let read : bit_of (grid f xs) col row ≡ get_or (get_or (rows_of f.height f.width xs) up []) across false = rw (hc, hr) refl in
    read
    ∙ ap (λ ys. get_or ys across false)
    (get_or-map (bits_in f.width) (cut f.height size xs) up [] [] (omega (arith, inside, length-cut f.height size xs)))
    ∙ bits_in-at f.width (get_or (cut f.height size xs) up []) across false within
    ∙ ap (λ n. n == 1) (word_bit-cut f.height size up across xs inside (words_hold f.width across within))

-- no two pixels of rows of one length have one number
numbers_apart : (a b size i k : ℕ) → i < 32 * size → k < 32 * size → 32 * (a * size) + i ≡ 32 * (b * size) + k → (a ≡ b) × (i ≡ k)
numbers_apart a b size i k hi hk e = elim (cases_order a b) [
  | inl s ↦ let p : a * size ≡ b * size = ap (λ n. n * size) s in (s, omega (arith, p, e))
  | inr (inl l) ↦ let p : suc a * size ≤ b * size = mul-le-mul_right size (omega arith) in absurd (omega (arith, p, e, hi, hk))
  | inr (inr l) ↦ let p : suc b * size ≤ a * size = mul-le-mul_right size (omega arith) in absurd (omega (arith, p, e, hi, hk))
]

past_width : {i across width : ℕ} → i ≡ across → width ≤ i → across < width → ⊥
past_width e l w = omega (arith, e, l, w)

pub words_with_bit : (f : Frame) (xs ys : List ℕ) (col row : ℤ) → IsFrom f.left f.width col → IsFrom f.bottom f.height row
    → AreWords f.height f.width xs → length ys ≡ length xs
    → ((k : ℕ) → k ≢ bit_number f col row → word_bit ys k ≡ word_bit xs k) → AreWords f.height f.width ys
words_with_bit f xs ys col row c r old same others =
    record { long = same ∙ old.long; rows = λ up h. record { count = count up h; unused = λ i l k. unused up h i l k } }
  where
    size : ℕ
    size = words_for f.width

    count : (up : ℕ) → up < f.height → length (get_or (cut f.height size ys) up []) ≡ words_for f.width
    count up h =
        let fits = row_fits up f.height size h in
        ap length (cut-row f.height size ys up h)
        ∙ length-take-le size (drop (up * size) ys) (omega (arith, fits, same, old.long, length-drop (up * size) ys))

    unused : (up : ℕ) → up < f.height → (i : ℕ) → f.width ≤ i → i < 32 * length (get_or (cut f.height size ys) up [])
        → word_bit (get_or (cut f.height size ys) up []) i ≡ 0
    unused up h i l k =
        let far : i < 32 * size = omega (arith, k, count up h) in
        let within = steps_below f.left f.width col c in
        let apart : 32 * (up * size) + i ≢ bit_number f col row =
        λ e. past_width (numbers_apart up (steps f.bottom row) size i (steps f.left col) far
        (words_hold f.width (steps f.left col) within) e).1 l within in
        let before : i < 32 * length (get_or (cut f.height size xs) up []) = omega (arith, far, (old.rows up h).count) in
        word_bit-cut f.height size up i ys h far
        ∙ others (32 * (up * size) + i) apart
        ∙ sym (word_bit-cut f.height size up i xs h far)
        ∙ (old.rows up h).unused i l before

-- bits that are seen as these
pub bit_here : (f : Frame) (xs : List ℕ) (b : Bits) (col row : ℤ) → grid f xs ≡ b → IsFrom f.left f.width col
    → IsFrom f.bottom f.height row → word_bit xs (bit_number f col row) ≡ 1 → bit_of b col row ≡ true
bit_here f xs b col row seen c r h =
    ap (λ g. bit_of g col row) (sym seen) ∙ bit_of-number f xs col row c r ∙ ap (λ n. n == 1) h ∙ refl

same_steps : (first : ℤ) (count : ℕ) (m n : ℤ) → IsFrom first count m → IsFrom first count n → steps first m ≡ steps first n → m ≡ n
same_steps first count m n hm hn e = grind (arith, signed_linear, hm, hn, e, steps_back)

pub bit_elsewhere : (f : Frame) (xs ys : List ℕ) (a b : Bits) (col row : ℤ) → grid f xs ≡ a → grid f ys ≡ b
    → IsFrom f.left f.width col → IsFrom f.bottom f.height row
    → ((k : ℕ) → k ≢ bit_number f col row → word_bit ys k ≡ word_bit xs k) → (i j : ℤ) → (i ≢ col) ⊎ (j ≢ row)
    → bit_of b i j ≡ bit_of a i j
bit_elsewhere f xs ys a b col row seen seen' c r others i j n =
    ap (λ g. bit_of g i j) (sym seen') ∙ by (is_from f.left f.width i) (is_from f.bottom f.height j) refl refl
    ∙ ap (λ g. bit_of g i j) seen
  where
    size : ℕ
    size = words_for f.width

    apart : IsFrom f.left f.width i → IsFrom f.bottom f.height j → (i ≢ col) ⊎ (j ≢ row) → bit_number f i j ≢ bit_number f col row
    apart ci rj n e =
        let wi = words_hold f.width (steps f.left i) (steps_below f.left f.width i ci) in
        let wc = words_hold f.width (steps f.left col) (steps_below f.left f.width col c) in
        let s = numbers_apart (steps f.bottom j) (steps f.bottom row) size (steps f.left i) (steps f.left col) wi wc e in
        elim n [
          | inl m ↦ m (same_steps f.left f.width i col ci c s.1)
          | inr m ↦ m (same_steps f.bottom f.height j row rj r s.0)
        ]

    by : (x y : Bool) → is_from f.left f.width i ≡ x → is_from f.bottom f.height j ≡ y
        → bit_of (grid f ys) i j ≡ bit_of (grid f xs) i j
    by true true ex ey =
        let ci = from_true f.left f.width i ex in
        let rj = from_true f.bottom f.height j ey in
        bit_of-number f ys i j ci rj
        ∙ ap (λ n. n == 1) (others (bit_number f i j) (apart ci rj n))
        ∙ sym (bit_of-number f xs i j ci rj)
    by true false ex ey = rw (ex, ey) refl
    by false y ex ey = rw (ex) refl

-- where a bit is, and that the words have it
pub number_within : (f : Frame) (col row : ℤ) → IsFrom f.left f.width col → IsFrom f.bottom f.height row
    → bit_number f col row / 32 < f.height * words_for f.width
number_within f col row c r = grind (arith, signed_linear, c, r, row_fits, steps_below, words_hold)
