-- Rows of pixels in words of 32 bits, from any bit on.
use Rattle.std.specs.Prelude.{◌≡◌, ℕ, ◌+◌, ◌-◌, ◌*◌, ◌/◌, ◌<◌, ◌≤◌, ◌==◌, Bool, List, map, length, slice_index_or}
use Rattle.std.specs.Int.{bit_at}
use Rattle.std.specs.List.{range_with_len}
use Rattle.fx_winding.specs.Limits.{greatest_side}
use Rattle.fx_winding.specs.Bitmaps.{word_bit, words_for}
use Rattle.fx_bdf.specs.Text.{pixel}

-- the pixels of a row of this width that words hold from one bit on
abbrev pub row_from : ℕ → ℕ → List ℕ → List Bool
row_from width from words = map (λ i. word_bit words (from + i) == 1) (range_with_len 0 width)

-- how many words a row of this width needs
abbrev pub words_needed : ℕ → ℕ
words_needed width = (width + 31) / 32

-- words hold all of the row, and no bit after it is set
pub record HoldRow (width from : ℕ) (words : List ℕ) : Type 0 where
  pub wide : width ≤ greatest_side
  pub few : length words ≤ words_for greatest_side
  pub inside : from + width ≤ 32 * length words
  pub unused : (i : ℕ) → width ≤ i → word_bit words (from + i) ≡ 0

-- a word has the pixels of a row from pixel 32 * k on, and 0 after the row's end
pub record IsWordOf (k : ℕ) (row : List Bool) (word : ℕ) : Type 0 where
  pub bits : (i : ℕ) → i < 32 → bit_at word (31 - i) ≡ pixel row (32 * k + i)

-- words that hold a row from their first bit on, and no more words than that needs
pub record AreWordsOf (row : List Bool) (words : List ℕ) : Type 0 where
  pub count : length words ≡ words_needed (length row)
  pub each : (k : ℕ) → k < length words → IsWordOf k row (slice_index_or words k 0)
