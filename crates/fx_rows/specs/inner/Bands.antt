-- The counts and the marks of a band of rows.
use Rattle.std.specs.Prelude.{◌≡◌, ◌⊎◌, ℕ, ◌+◌, ◌*◌, ◌^◌, ◌≤◌, ◌<◌, ℤ, pos, ◌+ℤ◌, Bool, false, List}
use Rattle.std.specs.Prelude.{◌↔◌, IsTrue, Any, length}
use Rattle.fx_winding.specs.Winding.{Span, span_of, IsOn, IsCovered, winding, centre}
use Rattle.fx_fixed.specs.Ranges.{IsWithin}
use Rattle.fx_winding.specs.Bitmaps.{words_for, word_bit}
use Rattle.fx_winding.specs.declared.frame.Frame.{Frame}
use Rattle.fx_rows.specs.declared.band.Band.{Band}
use Rattle.fx_rows.specs.declared.bounded.Bounded.{Bounded}
use Rattle.fx_rows.specs.inner.Heights.{height_of}
use Rattle.fx_rows.specs.inner.Points.{IsInner}
use Rattle.fx_rows.specs.inner.Sums.{before, AreWithin, AreZero, AreTouched, is_marked}
use Rattle.fx_rows.specs.inner.Cuts.{IsAdded}

-- the piece alone
abbrev pub bounded_span : Bounded → Span
bounded_span b = span_of b.piece

-- the rows of a frame from one to before another pass between the ends of a piece's chord
pub record AreInner (b : Bounded) (f : Frame) (from to : ℕ) : Type 0 where
  pub within : to ≤ f.height
  pub inner : (r : ℕ) → from ≤ r → r < to → IsInner b.piece.a.y b.piece.c.y (height_of f r)

-- the same rows of a band, whose differences are small enough for one piece more
pub record AreInnerRows (b : Bounded) (band : Band) (from to : ℕ) : Type 0 where
  pub inner : AreInner b band.frame from to
  pub small : AreWithin (2 ^ 25 + 4 * from) band.diff.items

-- how many numbers a row of this width takes: whole words
abbrev pub stride : ℕ → ℕ
stride width = 32 * words_for width

-- the count at a number
abbrev pub turns_at : Band → ℕ → ℤ
turns_at b n = before (n + 1) b.diff.items

-- whether a number is marked
abbrev pub mark_at : Band → ℕ → Bool
mark_at b n = is_marked b.marks.items n

-- a band that nothing was added to
pub record IsClear (b : Band) : Type 0 where
  pub counts : AreZero b.diff.items
  pub marks : (n : ℕ) → mark_at b n ≡ false

-- two bands have the same count and the same mark at a number
pub record IsKept (old new : Band) (n : ℕ) : Type 0 where
  pub turns : turns_at new n ≡ turns_at old n
  pub mark : mark_at new n ≡ mark_at old n

-- what a piece adds to the row of a frame whose first pixel has this number, and that it adds nothing elsewhere
pub record IsRowAdded (s : Span) (f : Frame) (row : ℤ) (first : ℕ) (old new : Band) : Type 0 where
  pub added : (k : ℕ) → k < f.width → IsAdded s (centre (f.left +ℤ pos k) row) (mark_at old (first + k)) (mark_at new (first + k))
      (turns_at old (first + k)) (turns_at new (first + k))
  pub under : (n : ℕ) → n < first → IsKept old new n
  pub over : (k : ℕ) → f.width ≤ k → IsKept old new (first + k)
  pub grown : (n : ℕ) → AreWithin n old.diff.items → AreWithin (n + 4) new.diff.items
  pub touches : AreTouched old.diff.items old.touched.items → AreTouched new.diff.items new.touched.items

-- n is the number of no pixel in the rows of a frame from one to before another, counted from its lowest
abbrev pub IsBeside : Frame → ℕ → ℕ → ℕ → Type 0
IsBeside f from to n = (r : ℕ) → from ≤ r → r < to → (n < r * stride f.width) ⊎ (r * stride f.width + f.width ≤ n)

-- what a piece adds to the rows of a frame from one to before another, and that it adds nothing elsewhere
pub record IsBandAdded (s : Span) (f : Frame) (from to : ℕ) (old new : Band) : Type 0 where
  pub added : (r k : ℕ) → from ≤ r → r < to → k < f.width
      → IsAdded s (centre (f.left +ℤ pos k) (f.bottom +ℤ pos r)) (mark_at old (r * stride f.width + k))
      (mark_at new (r * stride f.width + k)) (turns_at old (r * stride f.width + k)) (turns_at new (r * stride f.width + k))
  pub kept : (n : ℕ) → IsBeside f from to n → IsKept old new n
  pub grown : (n : ℕ) → AreWithin (n + 4 * from) old.diff.items → AreWithin (n + 4 * to) new.diff.items
  pub touches : AreTouched old.diff.items old.touched.items → AreTouched new.diff.items new.touched.items

-- in a frame each pixel on a piece is marked, the count of each other pixel is its winding number, and all else is unmarked and
-- counts 0; counts are small, and each difference has its bit
pub record IsCounted (ss : List Span) (f : Frame) (b : Band) : Type 0 where
  pub turns : (r k : ℕ) → r < f.height → k < f.width → mark_at b (r * stride f.width + k) ≡ false
      → turns_at b (r * stride f.width + k) ≡ winding (centre (f.left +ℤ pos k) (f.bottom +ℤ pos r)) ss
  pub marks : (r k : ℕ) → r < f.height → k < f.width
      → IsTrue (mark_at b (r * stride f.width + k)) ↔ Any (IsOn (centre (f.left +ℤ pos k) (f.bottom +ℤ pos r))) ss
  pub rest : (n : ℕ) → IsBeside f 0 f.height n → turns_at b n ≡ pos 0
  pub unused : (n : ℕ) → IsBeside f 0 f.height n → mark_at b n ≡ false
  pub small : (n : ℕ) → IsWithin (2 ^ 20) (before n b.diff.items)
  pub touched : AreTouched b.diff.items b.touched.items

-- the bits of a frame's rows: each is set exactly when the pixel's centre is covered, and those after a row's last pixel are 0
pub record AreBitsOf (ss : List Span) (f : Frame) (words : List ℕ) : Type 0 where
  pub bits : (r k : ℕ) → r < f.height → k < f.width
      → (word_bit words (r * stride f.width + k) ≡ 1) ↔ IsCovered (centre (f.left +ℤ pos k) (f.bottom +ℤ pos r)) ss
  pub unused : (r k : ℕ) → r < f.height → f.width ≤ k → k < stride f.width → word_bit words (r * stride f.width + k) ≡ 0

-- the words of rows of pixels, done of them, from the left column and the bottom row on: each bit is set exactly when the pixel's
-- centre is covered, and those after a row's last pixel are 0
pub record AreScanned (ss : List Span) (left bottom : ℤ) (width done : ℕ) (words : List ℕ) : Type 0 where
  pub long : length words ≡ done * words_for width
  pub bits : (r k : ℕ) → r < done → k < width
      → (word_bit words (r * stride width + k) ≡ 1) ↔ IsCovered (centre (left +ℤ pos k) (bottom +ℤ pos r)) ss
  pub unused : (r k : ℕ) → r < done → width ≤ k → k < stride width → word_bit words (r * stride width + k) ≡ 0
