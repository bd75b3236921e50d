-- The rows of a box, in the words of a bitmap's rows.
use Rattle.std.specs.Prelude.{ℕ, ◌-◌, ◌*◌, ◌<◌, ◌≤◌, Bool, List, map, take, drop, length}
use Rattle.std.specs.List.{range_with_len}
use Rattle.fx_winding.specs.Limits.{greatest_side}
use Rattle.fx_bdf.specs.inner.RowWords.{row_from, HoldRow}

-- of rows from the bottom, each of `stride` words, the words of the row i from the top, if there are `top` up to the highest
abbrev pub words_held : List ℕ → ℕ → ℕ → ℕ → List ℕ
words_held words stride top i = take stride (drop ((top - 1 - i) * stride) words)

-- the rows of a box from the top, which begin with the bit `from` of those words
abbrev pub rows_held : List ℕ → ℕ → ℕ → ℕ → ℕ → ℕ → List (List Bool)
rows_held words stride top from width height =
    map (λ i. row_from width from (words_held words stride top i)) (range_with_len 0 height)

-- the words hold each of them
pub record AreInBox (words : List ℕ) (stride top from width height : ℕ) : Type 0 where
  pub high : height ≤ top
  pub wide : width ≤ greatest_side
  pub inside : 0 < height → top * stride ≤ length words
  pub held : (i : ℕ) → i < height → HoldRow width from (words_held words stride top i)
