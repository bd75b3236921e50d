-- The rows of a box that words of a bitmap hold are the rows of its bits: `held_rows_are`.
-- Serves `BoxRows`.
use Rattle.std.proofs.Common.{◌≡◌, ◌⊎◌, ℕ, ◌+◌, ◌-◌, ◌*◌, ◌/◌, ◌%◌, ◌<◌, ◌≤◌, pos, ◌+ℤ◌, ◌≤ℤ◌, List, [], length, get_or}
use Rattle.std.proofs.Common.{ap, sym, ◌∙◌, refl, false, inl, inr, arith}
use Rattle.std.specs.Prelude.{◌==◌, map}
use Rattle.std.specs.List.{range_with_len}
use Rattle.std.proofs.Math.Nat.{mul-le-mul_right}
use Rattle.std.proofs.lemmas.Bool.{eqb-false}
use Rattle.std.proofs.lemmas.Nat.Bits.{bit_at-lt}
use Rattle.std.proofs.lemmas.List.FromFn.{fill_by_all, length-map-range_with_len, get_or-map-range_with_len}
use Rattle.fx_fixed.proofs.Linear.{signed_linear}
use Rattle.fx_winding.specs.Bitmaps.{Bits, AreWords, AreRowWords, bit_of, rows_of, word_bit, words_for}
use Rattle.fx_winding.specs.Frames.{steps}
use Rattle.fx_winding.proofs.Grid.{row_words, row_bits, row_fits}
use Rattle.fx_bdf.specs.Glyphs.{Box, no_box, HasSides, IsBoxed, IsTight, row_in, rows_in}
use Rattle.fx_bdf.specs.inner.RowWords.{row_from, HoldRow}
use Rattle.fx_bdf.specs.inner.BoxRows.{words_held, rows_held, AreInBox}
use Rattle.fx_bdf.proofs.Boxes.{parts_of_place, steps_above}
use Rattle.fx_bdf.proofs.Cases.{not_set}
use Rattle.fx_bdf.proofs.Packing.{line_bit_of_word}
use Rattle.fx_bdf.proofs.RowWords.{length-row_from}
use Rattle.fx_bdf.proofs.Trims.{bit_inside}

pub length-rows_held : (words : List ℕ) (stride top from width height : ℕ)
    → length (rows_held words stride top from width height) ≡ height
length-rows_held words stride top from width height =
    length-map-range_with_len (λ i. row_from width from (words_held words stride top i)) 0 height

pub ruleset held_sizes = (length-rows_held)

pub held_at : (words : List ℕ) (stride top from width height i : ℕ) → i < height
    → get_or (rows_held words stride top from width height) i [] ≡ row_from width from (words_held words stride top i)
held_at words stride top from width height i h =
    get_or-map-range_with_len (λ k. row_from width from (words_held words stride top k)) 0 height i i [] h (omega arith)

-- each is as wide as the box
pub held_width : (words : List ℕ) (stride top from width height i : ℕ) → i < height
    → length (get_or (rows_held words stride top from width height) i []) ≡ width
held_width words stride top from width height i h = grind (arith, h, held_at, length-row_from)

-- the words of each lie within all
pub held_fits : (words : List ℕ) (stride top from width height i : ℕ) → AreInBox words stride top from width height → i < height
    → (top - 1 - i) * stride + stride ≤ length words
held_fits words stride top from width height i w h = grind (arith, w, h, row_fits (top - 1 - i) top stride)

-- ---- the rows of a tight box

-- where they lie in the bitmap
pub record LieIn (b : Bits) (box : Box) (words : List ℕ) (top from : ℕ) : Type 0 where
  pub rows : AreWords b.frame.height b.frame.width words
  pub bits : b ≡ record { frame = b.frame; rows = rows_of b.frame.height b.frame.width words }
  pub boxed : IsBoxed box (bit_of b)
  pub high : top ≡ steps b.frame.bottom box.bottom + box.height
  pub start : from ≡ steps b.frame.left box.left

-- a tight box with a row lies in the frame
record IsHeld (b : Bits) (box : Box) : Type 0 where
  left : b.frame.left ≤ℤ box.left
  right : (box.left +ℤ pos box.width) ≤ℤ (b.frame.left +ℤ pos b.frame.width)
  low : b.frame.bottom ≤ℤ box.bottom
  high : (box.bottom +ℤ pos box.height) ≤ℤ (b.frame.bottom +ℤ pos b.frame.height)

held_in_frame : (b : Bits) (box : Box) → IsTight box (bit_of b) → 0 < box.height → IsHeld b box
held_in_frame b box t h = by t.sides
  where
    by : (box ≡ no_box) ⊎ HasSides box (bit_of b) → IsHeld b box
    by (inl e) = let none : box.height ≡ 0 = ap (λ (x : Box). x.height) e in absurd (omega (arith, none))
    by (inr s) = grind (arith, signed_linear, s, bit_inside)

-- words of the bitmap have the bits of the box's row i from the top
record HaveRow (b : Bits) (box : Box) (from i : ℕ) (words : List ℕ) : Type 0 where
  are : AreRowWords b.frame.width words
  inside : from + box.width ≤ b.frame.width
  bits : (k : ℕ) → (word_bit words (from + k) == 1) ≡ bit_of b (box.left +ℤ pos k) (box.bottom +ℤ pos (box.height - 1 - i))

have_row : (b : Bits) (box : Box) (words : List ℕ) (top from i : ℕ) → LieIn b box words top from → i < box.height
    → HaveRow b box from i (words_held words (words_for b.frame.width) top i)
have_row b box words top from i l h =
    let f = held_in_frame b box l.boxed.tight (omega arith) in
    let up = top - 1 - i in
    let row = words_held words (words_for b.frame.width) top i in
    let left = steps_above b.frame.left box.left f.left in
    let bottom = steps_above b.frame.bottom box.bottom f.low in
    let low : up < b.frame.height = omega (arith, signed_linear, f.high, l.high, bottom) in
    let are = row_words b.frame words row up l.rows low refl in
    let bits = row_bits b.frame words row up low refl ∙ ap (λ (c : Bits). get_or c.rows up []) (sym l.bits) in
    record {
      are = are;
      inside = omega (arith, signed_linear, f.right, l.start, left);
      bits = λ k.
          let across : b.frame.left +ℤ pos (from + k) ≡ box.left +ℤ pos k = omega (arith, signed_linear, l.start, left) in
          let above : b.frame.bottom +ℤ pos up ≡ box.bottom +ℤ pos (box.height - 1 - i) =
          omega (arith, signed_linear, l.high, bottom) in
          sym (line_bit_of_word b row up low are bits (from + k)) ∙ (λ t. bit_of b (across t) (above t));
    }

-- no bit of them is set after the box
row_held : (b : Bits) (box : Box) (from i : ℕ) (words : List ℕ) → IsBoxed box (bit_of b) → HaveRow b box from i words
    → HoldRow box.width from words
row_held b box from i words boxed r =
    let count = r.are.count in
    let sides = b.frame.columns in
    record {
      wide = boxed.wide;
      few = omega (arith, count, sides.few);
      inside = omega (arith, count, r.inside);
      unused = λ k past.
          let clear : bit_of b (box.left +ℤ pos k) (box.bottom +ℤ pos (box.height - 1 - i)) ≡ false =
          not_set _ (λ set. let p = (parts_of_place box _ _ (boxed.tight.holds _ _ set)).0 in
          absurd (omega (arith, signed_linear))) in
          let unset = eqb-false (word_bit words (from + k)) 1 (r.bits k ∙ clear) in
          omega (arith, unset, bit_at-lt (get_or words ((from + k) / 32) 0) (31 - (from + k) % 32));
    }

pub are_in_box : (b : Bits) (box : Box) (words : List ℕ) (top from : ℕ) → LieIn b box words top from
    → AreInBox words (words_for b.frame.width) top from box.width box.height
are_in_box b box words top from l = record {
  high = let t = l.high in omega (arith, t);
  wide = l.boxed.wide;
  inside = λ some.
      let f = held_in_frame b box l.boxed.tight some in
      let bottom = steps_above b.frame.bottom box.bottom f.low in
      let p : top * words_for b.frame.width ≤ b.frame.height * words_for b.frame.width =
      mul-le-mul_right (words_for b.frame.width) (omega (arith, signed_linear, f.high, l.high, bottom)) in
      omega (arith, p, l.rows.long);
  held = λ i h. row_held b box from i _ l.boxed (have_row b box words top from i l h);
}

pub held_rows_are : (b : Bits) (box : Box) (words : List ℕ) (top from : ℕ) → LieIn b box words top from
    → rows_held words (words_for b.frame.width) top from box.width box.height ≡ rows_in box (bit_of b)
held_rows_are b box words top from l =
    let stride = words_for b.frame.width in
    fill_by_all (row_in box (bit_of b)) (rows_held words stride top from box.width box.height) box.height []
    (length-rows_held words stride top from box.width box.height)
    (λ i h. held_at words stride top from box.width box.height i h
    ∙ (λ t. map (λ k. (have_row b box words top from i l h).bits k t) (range_with_len 0 box.width)))
