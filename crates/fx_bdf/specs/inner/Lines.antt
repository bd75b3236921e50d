-- The parts of a glyph's lines, as they are written.
use Rattle.std.specs.Prelude.{ℕ, ◌-◌, ◌*◌, ◌/◌, ◌%◌, ◌^◌, List, [], ◌∷◌, take, drop, map, Bool, true}
use Rattle.std.specs.List.{flat_map, range_with_len}
use Rattle.std.specs.Fmt.{digit_glyph}
use Rattle.fx_bdf.specs.Text.{four_pixels, row_text}

-- the eight upper case hexadecimal digits of a word, that of the highest four bits first
abbrev pub word_text : ℕ → List ℕ
word_text w =
    digit_glyph true (w / 2 ^ 28 % 16) ∷ digit_glyph true (w / 2 ^ 24 % 16) ∷ digit_glyph true (w / 2 ^ 20 % 16)
    ∷ digit_glyph true (w / 2 ^ 16 % 16) ∷ digit_glyph true (w / 2 ^ 12 % 16) ∷ digit_glyph true (w / 2 ^ 8 % 16)
    ∷ digit_glyph true (w / 2 ^ 4 % 16) ∷ digit_glyph true (w % 16) ∷ []

-- a digit of a row, counted from the left, and n digits from one on
abbrev pub digit : List Bool → ℕ → ℕ
digit row i = digit_glyph true (four_pixels row (4 * i))

abbrev pub digits_from : List Bool → ℕ → ℕ → List ℕ
digits_from row first n = map (digit row) (range_with_len first n)

-- the lines of the rows from one up to another
abbrev pub lines_between : List (List Bool) → ℕ → ℕ → List ℕ
lines_between rows first end = flat_map row_text (take (end - first) (drop first rows))
