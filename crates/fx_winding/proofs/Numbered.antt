-- Notes whose bits, in the order of the segments' numbers, say what is met are exact: `exact_noted`.
-- Serves `Notes::of`, and the tests of segments in the scan by rows.
use Rattle.std.proofs.Common.{◌≡◌, ◌↔◌, sym, subst, ℕ, ◌+◌, ◌-◌, ◌*◌, ◌^◌, ◌/◌, ◌%◌, ◌<◌, ◌≤◌, ℤ, pos, ◌+ℤ◌, ◌-ℤ◌, List}
use Rattle.std.proofs.Common.{Any, map, arith, w32, to_z, of_z}
use Rattle.std.proofs.Math.Nat.{mul-le-mul_right}
use Rattle.std.proofs.lemmas.Int.{to_z_pos}
use Rattle.std.proofs.lemmas.Nat.{div-mul-add, mod-mul-add}
use Rattle.std.proofs.lemmas.Nat.Bits.{bit_at-lt}
use Rattle.std.specs.Prelude.{slice_index_or}
use Rattle.fx_fixed.proofs.Linear.{signed_linear}
use Rattle.fx_winding.specs.declared.frame.Frame.{Frame}
use Rattle.fx_winding.specs.Bitmaps.{words_for, word_bit}
use Rattle.fx_winding.specs.Turned.{turned_span}
use Rattle.fx_winding.specs.Frames.{HasMargin}
use Rattle.fx_winding.specs.Meets.{IsMet}
use Rattle.fx_winding.specs.Notes.{pixel_number, AreExact, IsMetOf}
use Rattle.fx_winding.specs.Winding.{Span, centre}

-- the ends of a segment as the code has them
pub right_column : (f : Frame) (k : ℕ) → k ≤ f.width
    → to_z w32 (of_z w32 (to_z w32 (of_z w32 f.left) +ℤ to_z w32 k)) ≡ f.left +ℤ pos k
right_column f k l = grind (arith, signed_linear, l, to_z_pos)

pub left_column : (f : Frame) (k : ℕ) → k ≤ f.width
    → to_z w32 (of_z w32 (to_z w32 (of_z w32 (to_z w32 (of_z w32 f.left) +ℤ to_z w32 k)) -ℤ pos 1)) ≡ (f.left -ℤ pos 1) +ℤ pos k
left_column f k l =
    let right = right_column f k l in
    omega (arith, signed_linear, right, f.columns, l)

pub row_number : (f : Frame) (r : ℕ) → r < f.height
    → to_z w32 (of_z w32 (to_z w32 (of_z w32 f.bottom) +ℤ to_z w32 r)) ≡ f.bottom +ℤ pos r
row_number f r l = grind (arith, signed_linear, l, to_z_pos)

-- a bit that is not 1 is 0
pub clear_unless : (words : List ℕ) (i : ℕ) → (word_bit words i ≡ 1 → ⊥) → word_bit words i ≡ 0
clear_unless words i h = let l = bit_at-lt (slice_index_or words (i / 32) 0) (31 - i % 32) in grind (arith, l, h)

-- the segments of at most 8,193 rows take few words
pub few_words : (f : Frame) (rows n : ℕ) → rows ≤ 8193 → n ≡ rows * words_for f.width → n ≤ 2 ^ 32
few_words f rows n h e = grind (arith, signed_linear, h, e, mul-le-mul_right)

-- a frame with its coordinates exchanged has numbers beside it too
pub turned_margin : (f g : Frame) → g.left ≡ f.bottom → g.bottom ≡ f.left → g.width ≡ f.height → g.height ≡ f.width
    → HasMargin f → HasMargin g
turned_margin f g left bottom width height m = grind (arith, signed_linear, left, bottom, width, height, m)

-- the number of a segment of a row lies within the words of the rows
inside : (r k rows words n : ℕ) → r < rows → k < 32 * words → n ≡ rows * words → r * (32 * words) + k < 32 * n
inside r k rows words n h l e = grind (arith, signed_linear, h, l, e, mul-le-mul_right)

-- what holds of the bit of each number holds by the row and the column of each segment
by_row : (P : ℕ → ℕ → Type 0) (rows words count : ℕ) (bits : List ℕ) → count ≡ rows * words
    → ((n : ℕ) → n < 32 * count → (word_bit bits n ≡ 1) ↔ P (n / (32 * words)) (n % (32 * words))) → (r k : ℕ) → r < rows
    → k < 32 * words → (word_bit bits (r * (32 * words) + k) ≡ 1) ↔ P r k
by_row P rows words count bits long set r k l m = grind (arith, signed_linear, long, set, l, m, div-mul-add, mod-mul-add, inside)

-- the pieces' segments up, as the frame with its coordinates exchanged has them
abbrev AnyUp : List Span → ℤ → ℤ → ℕ → ℕ → Type 0
AnyUp ss x y r k = Any (IsMet (centre ((y -ℤ pos 1) +ℤ pos r) (x +ℤ pos k)) (centre (y +ℤ pos r) (x +ℤ pos k))) (map turned_span ss)

pub exact_noted : (f g : Frame) (ss : List Span) (rows columns : List ℕ) (m n : ℕ) → g.left ≡ f.bottom → g.bottom ≡ f.left
    → g.width ≡ f.height → g.height ≡ f.width → m ≡ f.height * words_for f.width → n ≡ (f.height + 1) * words_for f.width
    → ((i : ℕ) → i < 32 * m
    → (word_bit rows i ≡ 1) ↔ IsMetOf f ss (i / (32 * words_for f.width)) (i % (32 * words_for f.width)))
    → ((i : ℕ) → i < 32 * n → (word_bit columns i ≡ 1)
    ↔ IsMetOf g (map turned_span ss) (i % (32 * words_for f.width)) (i / (32 * words_for f.width)))
    → AreExact f rows columns ss
exact_noted f g ss rows columns m n left bottom width height long high across up = record {
  across = λ r k l w off. let h = row r k l (omega (arith, w)) in (
    λ e. (h.0 e).met,
    λ a. h.1 (record { row = l; column = w; met = a }),
  );
  up = λ r k some l w off. let h = column r k l (omega (arith, w)) in (
    λ e. subst (λ (o : ℤ × ℤ). AnyUp ss o.1 o.0 r k) origin (h.0 e).met,
    λ a. h.1 (record {
      row = omega (arith, w, height);
      column = omega (arith, l, width);
      met = subst (λ (o : ℤ × ℤ). AnyUp ss o.1 o.0 r k) (sym origin) a;
    }),
  );
  rest_across = λ r k l w v. clear_unless rows (pixel_number f r k)
      (λ e. let h = ((row r k l v).0 e).column in omega (arith, w, h));
  rest_up = λ r k l w v. clear_unless columns (pixel_number f r k)
      (λ e. let h = ((column r k l v).0 e).row in omega (arith, w, h, height));
}
  where
    origin : ◌≡◌ {A = ℤ × ℤ} (g.left, g.bottom) (f.bottom, f.left)
    origin = λ i. (left i, bottom i)

    row : (r k : ℕ) → r < f.height → k < 32 * words_for f.width → (word_bit rows (pixel_number f r k) ≡ 1) ↔ IsMetOf f ss r k
    row = by_row (IsMetOf f ss) f.height (words_for f.width) m rows long across

    column : (r k : ℕ) → r ≤ f.height → k < 32 * words_for f.width
        → (word_bit columns (pixel_number f r k) ≡ 1) ↔ IsMetOf g (map turned_span ss) k r
    column r k l w = by_row (λ r k. IsMetOf g (map turned_span ss) k r) (f.height + 1) (words_for f.width) n columns high up r k
        (omega (arith, l)) w
