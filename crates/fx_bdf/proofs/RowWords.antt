-- Two words, joined and shifted, have 32 bits of a row that begins at any bit: `word_of_row`.
-- Serves the rows of a glyph and their digits.
use Rattle.std.proofs.Common.{◌≡◌, sym, ap, ◌∙◌, ℕ, zero, suc, ◌+◌, ◌-◌, ◌*◌, ◌/◌, ◌%◌, ◌<◌, ◌≤◌, false, List, length, take, drop}
use Rattle.std.proofs.Common.{refl, get_or, arith, length-drop, get_or-drop, get_or-take}
use Rattle.std.specs.Prelude.{◌==◌, if◌then◌else◌}
use Rattle.std.specs.Int.{bit_at}
use Rattle.std.proofs.lemmas.List.{get_or_past, length-take-le}
use Rattle.std.proofs.lemmas.List.FromFn.{length-map-range_with_len, get_or-map-range_with_len}
use Rattle.std.proofs.lemmas.Nat.Bits.{bit_at-lt, bit_at_cat_high, bit_at_cat_low}
use Rattle.fx_fixed.proofs.Order.{below_or_not}
use Rattle.fx_winding.specs.Bitmaps.{word_bit}
use Rattle.fx_bdf.specs.Text.{pixel}
use Rattle.fx_bdf.specs.inner.RowWords.{row_from, words_needed, HoldRow, IsWordOf, AreWordsOf}

pub length-row_from : (width from : ℕ) (words : List ℕ) → length (row_from width from words) ≡ width
length-row_from width from words = length-map-range_with_len (λ i. word_bit words (from + i) == 1) 0 width

pub ruleset row_sizes = (length-row_from)

bit_or_none : (b : ℕ) → b < 2 → (if b == 1 then 1 else 0) ≡ b
bit_or_none zero h = refl
bit_or_none (suc zero) h = refl
bit_or_none (suc (suc n)) h = absurd (omega arith)

-- a pixel of the row is the bit of the words
row_pixel : (width from : ℕ) (words : List ℕ) (i : ℕ) → HoldRow width from words
    → pixel (row_from width from words) i ≡ word_bit words (from + i)
row_pixel width from words i h =
    grind (arith, below_or_not i width, get_or-map-range_with_len, bit_or_none, bit_at-lt, get_or_past, length-row_from)

-- a bit of the row is the bit of the words
pub row_bit : (width from : ℕ) (words : List ℕ) (i at : ℕ) → i < width → at ≡ from + i
    → (word_bit words at == 1) ≡ get_or (row_from width from words) i false
row_bit width from words i at l e = grind (arith, l, e, get_or-map-range_with_len)

-- past its end there is none
pub row_past : (width from : ℕ) (words : List ℕ) (i : ℕ) → width ≤ i → false ≡ get_or (row_from width from words) i false
row_past width from words i l = grind (arith, l, get_or_past, length-row_from)

-- the bit of a word that holds a pixel of the row
held_pixel : (width from : ℕ) (words : List ℕ) (i at bit : ℕ) → HoldRow width from words → at ≡ (from + i) / 32
    → bit ≡ 31 - (from + i) % 32 → bit_at (get_or words at 0) bit ≡ pixel (row_from width from words) i
held_pixel width from words i at bit h a b =
    (λ t. bit_at (get_or words (a t) 0) (b t)) ∙ sym (row_pixel width from words i h)

-- a row that begins with a word's first bit
pub whole_row : (width from : ℕ) (words some : List ℕ) → HoldRow width from words → from % 32 ≡ 0
    → some ≡ take (words_needed width) (drop (from / 32) words) → AreWordsOf (row_from width from words) some
whole_row width from words some h start e = record {
  count = few ∙ ap words_needed (sym (length-row_from width from words));
  each = λ k low. record {
    bits = λ i small. (λ t. bit_at (same k low t) (31 - i))
        ∙ held_pixel width from words (32 * k + i) (from / 32 + k) (31 - i) h (omega (arith, start)) (omega (arith, start));
  };
}
  where
    few : length some ≡ words_needed width
    few = grind (arith, h, start, e, length-take-le, length-drop)

    same : (k : ℕ) → k < length some → get_or some k 0 ≡ get_or words (from / 32 + k) 0
    same k low = grind (arith, h, start, e, low, few, get_or-take, get_or-drop)

-- 32 bits of two words from one of the first on are a word of the row
pub word_of_row : (width from : ℕ) (words : List ℕ) (k high low w : ℕ) → HoldRow width from words → low < 4294967296
    → high ≡ get_or words (from / 32 + k) 0 → low ≡ get_or words (from / 32 + k + 1) 0
    → ((i : ℕ) → i < 32 → bit_at w (31 - i) ≡ bit_at (high * 4294967296 + low) (63 - (from % 32 + i)))
    → IsWordOf k (row_from width from words) w
word_of_row width from words k high low w held small h l bits = record {
  bits = λ i few.
      grind (
        arith,
        bits i few,
        below_or_not (from % 32 + i) 32,
        bit_at_cat_high high 32 low,
        bit_at_cat_low high 32 low,
        held_pixel width from words (32 * k + i),
        h,
        l,
      );
}
