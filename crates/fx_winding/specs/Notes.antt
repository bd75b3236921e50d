-- The segments between neighbouring centres of a frame's rows and columns, those that lead out of it too, noted as bits: a segment
-- is noted exactly when a piece meets it, unless an end of it is on a piece.
use Rattle.std.specs.Prelude.{◌≡◌, ◌↔◌, ℕ, ◌+◌, ◌*◌, ◌≤◌, ◌<◌, pos, ◌+ℤ◌, ◌-ℤ◌, List, Any, map}
use Rattle.fx_winding.specs.declared.frame.Frame.{Frame}
use Rattle.fx_winding.specs.Bitmaps.{words_for, word_bit}
use Rattle.fx_winding.specs.Turned.{turned_span}
use Rattle.fx_winding.specs.Meets.{IsMet}
use Rattle.fx_winding.specs.Area.{Place}
use Rattle.fx_winding.specs.Winding.{Span, IsOn, centre}

-- the number of the segment to the pixel that is k right of a frame's left one and r above its lowest row; each row begins with a
-- new word
abbrev pub pixel_number : Frame → ℕ → ℕ → ℕ
pixel_number f r k = r * (32 * words_for f.width) + k

-- a piece meets the segment between a pixel and its left neighbour, and neither end is on the piece; the pixel is k right of the
-- frame's left one and r above its lowest row
pub record IsMetAcross (s : Span) (f : Frame) (r k : ℕ) : Type 0 where
  pub met : IsMet (centre ((f.left -ℤ pos 1) +ℤ pos k) (f.bottom +ℤ pos r)) (centre (f.left +ℤ pos k) (f.bottom +ℤ pos r)) s
  pub off_left : ¬ (IsOn (centre ((f.left -ℤ pos 1) +ℤ pos k) (f.bottom +ℤ pos r)) s)
  pub off_right : ¬ (IsOn (centre (f.left +ℤ pos k) (f.bottom +ℤ pos r)) s)

-- a piece meets the segment between a pixel and its lower neighbour, which is one of a row with all coordinates exchanged, and
-- neither end is on the piece
pub record IsMetUp (s : Span) (f : Frame) (r k : ℕ) : Type 0 where
  pub met : IsMet (centre ((f.bottom -ℤ pos 1) +ℤ pos r) (f.left +ℤ pos k)) (centre (f.bottom +ℤ pos r) (f.left +ℤ pos k))
      (turned_span s)
  pub off_lower : ¬ (IsOn (centre (f.left +ℤ pos k) ((f.bottom -ℤ pos 1) +ℤ pos r)) s)
  pub off_upper : ¬ (IsOn (centre (f.left +ℤ pos k) (f.bottom +ℤ pos r)) s)

-- the segments that a piece meets in the row that is r above a frame's lowest, the one after its last pixel too, have their bits
abbrev pub IsNotedAcross : Span → Frame → List ℕ → ℕ → Type 0
IsNotedAcross s f across r = (k : ℕ) → k ≤ f.width → IsMetAcross s f r k → word_bit across (pixel_number f r k) ≡ 1

-- the segments that a piece meets between that row and the one below it have their bits
abbrev pub IsNotedUp : Span → Frame → List ℕ → ℕ → Type 0
IsNotedUp s f up r = (k : ℕ) → k < f.width → IsMetUp s f r k → word_bit up (pixel_number f r k) ≡ 1

-- a segment of a frame's rows is that to the pixel k right of the left one and r above the lowest row, and some piece meets it
pub record IsMetOf (f : Frame) (ss : List Span) (r k : ℕ) : Type 0 where
  pub row : r < f.height
  pub column : k ≤ f.width
  pub met : Any (IsMet (centre ((f.left -ℤ pos 1) +ℤ pos k) (f.bottom +ℤ pos r)) (centre (f.left +ℤ pos k) (f.bottom +ℤ pos r))) ss

-- no piece has either of two places on it
pub record AreOff (p q : Place) (ss : List Span) : Type 0 where
  pub off_from : ¬ (Any (IsOn p) ss)
  pub off_to : ¬ (Any (IsOn q) ss)

-- a segment of a frame, neither of whose ends is on a piece, is noted exactly when a piece meets it: those across rows, and those
-- up columns; and no other bits are set
pub record AreExact (f : Frame) (rows columns : List ℕ) (ss : List Span) : Type 0 where
  pub across : (r k : ℕ) → r < f.height → k ≤ f.width
      → AreOff (centre ((f.left -ℤ pos 1) +ℤ pos k) (f.bottom +ℤ pos r)) (centre (f.left +ℤ pos k) (f.bottom +ℤ pos r)) ss
      → (word_bit rows (pixel_number f r k) ≡ 1)
      ↔ Any (IsMet (centre ((f.left -ℤ pos 1) +ℤ pos k) (f.bottom +ℤ pos r)) (centre (f.left +ℤ pos k) (f.bottom +ℤ pos r))) ss
  pub up : (r k : ℕ) → 0 < f.height → r ≤ f.height → k < f.width
      → AreOff (centre (f.left +ℤ pos k) ((f.bottom -ℤ pos 1) +ℤ pos r)) (centre (f.left +ℤ pos k) (f.bottom +ℤ pos r)) ss
      → (word_bit columns (pixel_number f r k) ≡ 1)
      ↔ Any (IsMet (centre ((f.bottom -ℤ pos 1) +ℤ pos r) (f.left +ℤ pos k)) (centre (f.bottom +ℤ pos r) (f.left +ℤ pos k)))
      (map turned_span ss)
  pub rest_across : (r k : ℕ) → r < f.height → f.width < k → k < 32 * words_for f.width
      → word_bit rows (pixel_number f r k) ≡ 0
  pub rest_up : (r k : ℕ) → r ≤ f.height → f.width ≤ k → k < 32 * words_for f.width
      → word_bit columns (pixel_number f r k) ≡ 0
