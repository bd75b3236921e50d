-- The segments between neighbouring pixels of a frame, by their bits, and their gaps closed. A segment has the number of the pixel
-- that it leads to: across rows it comes from the pixel before that one, up columns from the one a row of words before it.
use Rattle.std.specs.Prelude.{◌≡◌, ◌≢◌, ◌⊎◌, ◌↔◌, ℕ, zero, suc, ◌+◌, ◌-◌, ◌*◌, ◌/◌, ◌%◌, ◌<◌, ◌≤◌, nat_lt, if◌then◌else◌, ℤ, pos, ◌+ℤ◌}
use Rattle.std.specs.Prelude.{Bool, true, false, List, map, length, slice_index_or}
use Rattle.std.specs.Int.{bit_at}
use Rattle.fx_winding.specs.declared.frame.Frame.{Frame}
use Rattle.fx_winding.specs.Bitmaps.{words_for, word_bit}
use Rattle.fx_winding.specs.Frames.{IsInFrame}
use Rattle.fx_winding.specs.Winding.{span_of}
use Rattle.fx_dropout.specs.declared.chooser.Chooser.{Chooser}
use Rattle.fx_dropout.specs.Dropout.{IsNextChosen}
use Rattle.fx_dropout.specs.Tests.{choice_tests}
use Rattle.fx_dropout.specs.inner.Pairs.{next_col, next_row, seen_col, seen_row, seen_spans}

-- ---- segments
-- the number of bits that the words of a row have
abbrev pub stride : Frame → ℕ
stride f = 32 * words_for f.width

-- how far the pixel that a segment comes from is before the one that it leads to: across rows, or with `true` up columns
abbrev pub distance : Bool → Frame → ℕ
distance false f = 1
distance true f = stride f

-- how many rows of words the segments have: up columns there is one more
abbrev pub segment_rows : Bool → Frame → ℕ
segment_rows false f = f.height
segment_rows true f = f.height + 1

-- words of segments and of pixels are those of a frame that has pixels
pub record AreOf (up : Bool) (f : Frame) (noted words : List ℕ) : Type 0 where
  pub some : 0 < f.height
  pub noted_long : length noted ≡ segment_rows up f * words_for f.width
  pub words_long : length words ≡ f.height * words_for f.width

-- the bit c of a word of a list, counted from the left; 0 after the last word
abbrev pub bit_in : List ℕ → ℕ → ℕ → ℕ
bit_in words w c = bit_at (slice_index_or words w 0) (31 - c)

-- the bit before the bit c of a word: in the word or, of its first bit, the last one of the word before
abbrev pub left_bit : ℕ → ℕ → ℕ → ℕ
left_bit before word zero = bit_at before 0
left_bit before word (suc c) = bit_at word (31 - c)

-- the bit that is this far before a bit of words; 0 before the first
abbrev pub bit_before : ℕ → List ℕ → ℕ → ℕ
bit_before far words m = if nat_lt m far then 0 else word_bit words (m - far)

-- a segment is noted, and neither of its pixels is set
pub record IsOpen (noted here next : ℕ) : Type 0 where
  pub noted_is : noted ≡ 1
  pub here_is : here ≡ 0
  pub next_is : next ≡ 0

-- the same of the segment m, by words of notes and of pixels, if it comes from so far before
abbrev pub IsOpenIn : ℕ → List ℕ → List ℕ → ℕ → Type 0
IsOpenIn far noted words m = IsOpen (word_bit noted m) (bit_before far words m) (word_bit words m)

-- of the noted segments those that are open are left
pub record AreOpen (far : ℕ) (noted words left : List ℕ) : Type 0 where
  pub long : length left ≡ length noted
  pub bits : (m : ℕ) → (word_bit left m ≡ 1) ↔ IsOpenIn far noted words m

-- of the segments in the first w words of some places those that are open are left, and the other words are as they were
pub record AreLeft (place : ℕ → ℕ) (IsOpenAt : ℕ → ℕ → Type 0) (old new : List ℕ) (w : ℕ) : Type 0 where
  pub long : length new ≡ length old
  pub opens : (k c : ℕ) → k < w → c < 32 → (bit_in new (place k) c ≡ 1) ↔ IsOpenAt k c
  pub others : (k : ℕ) → ((i : ℕ) → i < w → k ≢ place i) → slice_index_or new k 0 ≡ slice_index_or old k 0

-- the same of words from one on; the words of the pixels that the segments come from, and of those that they lead to, begin at two
-- other places
abbrev pub AreLeftIn : List ℕ → List ℕ → List ℕ → ℕ → ℕ → ℕ → ℕ → Type 0
AreLeftIn words old new at from to w =
    AreLeft (λ k. at + k) (λ k c. IsOpen (bit_in old (at + k) c) (bit_in words (from + k) c) (bit_in words (to + k) c)) old new w

-- no bit is set
abbrev pub AreNone : List ℕ → Type 0
AreNone words = (m : ℕ) → word_bit words m ≡ 0

-- ---- gaps closed
-- the neighbour of a pixel closes the gap between them: it is chosen, and lies in the frame
abbrev pub IsNext : Chooser → Bool → ℤ → ℤ → Type 0
IsNext c up col row =
    IsNextChosen c.closing (seen_spans up (map span_of c.pieces.now)) (seen_col up col row) (seen_row up col row)
    × IsInFrame c.frame (next_col up col) (next_row up row)

-- a pixel, by its column and its row counted from the frame's first, closes the segment that leads to it: it is the first of its
-- line, or it is chosen before the one before it
abbrev pub IsReached : Chooser → Bool → ℕ → ℕ → Type 0
IsReached c false zero r = Unit {0}
IsReached c false (suc k) r = IsNext c false (c.frame.left +ℤ pos k) (c.frame.bottom +ℤ pos r)
IsReached c true k zero = Unit {0}
IsReached c true k (suc r) = IsNext c true (c.frame.left +ℤ pos k) (c.frame.bottom +ℤ pos r)

-- the same of the segment m
abbrev pub Reaches : Chooser → Bool → ℕ → Type 0
Reaches c up m = IsReached c up (m % stride c.frame) (m / stride c.frame)

-- the segment m is a gap, of those from one to before another
abbrev pub IsAmong : ℕ → ℕ → List ℕ → ℕ → Type 0
IsAmong from to gaps m = (from ≤ m) × (m < to) × (word_bit gaps m ≡ 1)

-- what the bit of a pixel is once these gaps are closed: it was set, or it closes the segment that leads on, or the one that leads
-- to it
abbrev pub IsClosed : (ℕ → Type 0) → ℕ → (ℕ → Type 0) → ℕ → ℕ → ℕ → Type 0
IsClosed IsGap far IsReachedAt m old new =
    (new ≡ 1) ↔ ((old ≡ 1) ⊎ ((IsGap (m + far) × ¬ (IsReachedAt (m + far))) ⊎ (IsGap m × IsReachedAt m)))

-- the gaps from one to before another are closed
pub record AreClosed (c : Chooser) (up : Bool) (gaps : List ℕ) (from to : ℕ) (old new : List ℕ) : Type 0 where
  pub long : length new ≡ length old
  pub bits : (m : ℕ)
      → IsClosed (IsAmong from to gaps) (distance up c.frame) (Reaches c up) m (word_bit old m) (word_bit new m)

-- the gaps of all rows, or of all columns, are closed
pub record AreLinesClosed (c : Chooser) (up : Bool) (noted old new : List ℕ) : Type 0 where
  pub long : length new ≡ length old
  pub bits : (m : ℕ) → m < 32 * length old → IsClosed (IsOpenIn (distance up c.frame) noted old) (distance up c.frame)
      (Reaches c up) m (word_bit old m) (word_bit new m)

-- ---- tests
-- the choices for the segments before one take at most this many tests; the first segments of lines take none
abbrev pub tests_before : Chooser → Bool → ℕ → ℕ
tests_before c up m = (m - distance up c.frame) * choice_tests c.closing (length c.pieces.now)

-- those of the segments from one to before another are counted
abbrev pub AreCounted : Chooser → Bool → ℕ → ℕ → ℕ → ℕ → Type 0
AreCounted c up from to old new = new + tests_before c up from ≤ old + tests_before c up to
