-- The segments of a row, or of a column seen as a row, that a piece meets, and the bits that they have.
use Rattle.std.specs.Prelude.{◌≡◌, ◌⊎◌, ℕ, ◌+◌, ◌*◌, ◌<◌, ◌≤◌, ℤ, pos, ◌+ℤ◌, ◌-ℤ◌, List, Option, Some, None, length}
use Rattle.fx_winding.specs.Area.{Place}
use Rattle.fx_winding.specs.Bitmaps.{words_for, word_bit}
use Rattle.fx_winding.specs.Meets.{IsMet, IsTipPart, IsWithinRow}
use Rattle.fx_winding.specs.Notes.{pixel_number, IsMetAcross, IsMetUp, IsNotedAcross, IsNotedUp}
use Rattle.fx_winding.specs.Winding.{Span, IsOn, centre}
use Rattle.fx_winding.specs.declared.frame.Frame.{Frame}
use Rattle.fx_rows.specs.declared.noted_rows.NotedRow.{NotedRow}
use Rattle.fx_rows.specs.declared.noted_rows.NotedRows.{NotedRows}
use Rattle.fx_rows.specs.declared.part.Run.{Run}
use Rattle.fx_rows.specs.inner.Told.{AreKept}

-- the ends of the segment of a row that goes to a frame's column
abbrev pub left_at : Frame → ℤ → ℕ → Place
left_at f row k = centre ((f.left -ℤ pos 1) +ℤ pos k) row

abbrev pub right_at : Frame → ℤ → ℕ → Place
right_at f row k = centre (f.left +ℤ pos k) row

-- a piece meets that segment
abbrev pub IsMetTo : Span → Frame → ℤ → ℕ → Type 0
IsMetTo s f row k = IsMet (left_at f row k) (right_at f row k) s

-- a piece meets it, unless an end of it is on the piece
abbrev pub IsMetToUnlessOn : Span → Frame → ℤ → ℕ → Type 0
IsMetToUnlessOn s f row k = ¬ (IsOn (left_at f row k) s) → ¬ (IsOn (right_at f row k) s) → IsMetTo s f row k

-- the column is the first of a run, or the one after its last
abbrev pub IsRunEnd : Frame → Option Run → ℕ → Type 0
IsRunEnd f None k = ⊥
IsRunEnd f (Some r) k = (f.left +ℤ pos k ≡ r.first) ⊎ (f.left +ℤ pos k ≡ r.last +ℤ pos 1)

-- the segment to a column, if the piece meets it and no end of it is on the piece, has its bit: the one that is k steps from first
abbrev pub IsSetTo : Span → Frame → ℤ → ℕ → ℕ → List ℕ → ℕ → Type 0
IsSetTo s f row first step bits k = ¬ (IsOn (left_at f row k) s) → ¬ (IsOn (right_at f row k) s) → IsMetTo s f row k
    → word_bit bits (first + k * step) ≡ 1

-- all segments of a frame's row
abbrev pub AreSetIn : Span → Frame → ℕ → ℕ → ℕ → List ℕ → Type 0
AreSetIn s f r first step bits = (k : ℕ) → k ≤ f.width → IsMetAcross s f r k → word_bit bits (first + k * step) ≡ 1

-- n is the bit of a segment of a row, which the piece meets, unless an end of that is on it
pub record IsLineBit (s : Span) (f : Frame) (row : ℤ) (first step n : ℕ) : Type 0 where
  pub k : ℕ
  pub within : k ≤ f.width
  pub at : n ≡ first + k * step
  pub met : IsMetToUnlessOn s f row k

-- of the bits that are set only these were not set before
abbrev pub AreOnly : (ℕ → Type 0) → List ℕ → List ℕ → Type 0
AreOnly IsNew old new = (n : ℕ) → word_bit new n ≡ 1 → (word_bit old n ≡ 1) ⊎ IsNew n

-- these bits are gained, if any, and none is lost
pub record GainOnly (IsNew : ℕ → Type 0) (old new : List ℕ) : Type 0 where
  pub kept : AreKept old new
  pub only : AreOnly IsNew old new

-- the segments of a row that go to the columns with At have their bits, if the piece meets them, and only bits of segments that it
-- meets are gained
pub record NotesAt (s : Span) (line : NotedRow) (At : ℕ → Type 0) (old new : List ℕ) : Type 0 where
  pub noted : (k : ℕ) → k ≤ line.frame.width → At k → IsSetTo s line.frame line.row line.first line.step new k
  pub gained : GainOnly (IsLineBit s line.frame line.row line.first line.step) old new

-- a column of the frame after its first one, with P
abbrev pub IsAfterFirst : NotedRow → (ℕ → Type 0) → ℕ → Type 0
IsAfterFirst line P k = (0 < k) × (k < line.frame.width) × P k

-- a point is within the segment to a column
abbrev pub HasEnd : Place → NotedRow → ℕ → Type 0
HasEnd p line k = IsWithinRow (left_at line.frame line.row k) (right_at line.frame line.row k) p

-- the tip of an arc is within it
abbrev pub HasTip : Span → NotedRow → ℕ → Type 0
HasTip s line k = IsTipPart s.a s.b s.c (left_at line.frame line.row k) (right_at line.frame line.row k)

-- the same of the segments of a frame's rows
pub record IsRowsBit (s : Span) (f : Frame) (row_step step n : ℕ) : Type 0 where
  pub r : ℕ
  pub row : r < f.height
  pub line : IsLineBit s f (f.bottom +ℤ pos r) (r * row_step) step n

-- a list has a bit for each segment of the rows
abbrev pub HaveRoom : NotedRows → List ℕ → Type 0
HaveRoom ls bits = (r : ℕ) → r < ls.frame.height → r * ls.row_step + ls.frame.width * ls.step < 32 * length bits

-- the segments of some rows that a piece meets have their bits, and only bits of segments that it meets are gained
pub record NotesRows (s : Span) (ls : NotedRows) (from to : ℕ) (old new : List ℕ) : Type 0 where
  pub noted : (r : ℕ) → from ≤ r → r < to → AreSetIn s ls.frame r (r * ls.row_step) ls.step new
  pub gained : GainOnly (IsRowsBit s ls.frame ls.row_step ls.step) old new

-- a piece meets the segment up to a row in a column, unless an end of it is on the piece
abbrev pub IsMetUnlessOn : Span → Frame → ℕ → ℕ → Type 0
IsMetUnlessOn s f r k = ¬ (IsOn (centre (f.left +ℤ pos k) ((f.bottom -ℤ pos 1) +ℤ pos r)) s)
    → ¬ (IsOn (centre (f.left +ℤ pos k) (f.bottom +ℤ pos r)) s) → IsMetUp s f r k

-- n is the bit of a segment across a row of a frame, or of one up to a row or from the highest, which a piece meets, unless an end
-- of that is on it
abbrev pub IsAcrossBit : Span → Frame → ℕ → Type 0
IsAcrossBit s f n = IsRowsBit s f (32 * words_for f.width) 1 n

pub record IsUpBit (s : Span) (f : Frame) (n : ℕ) : Type 0 where
  pub r : ℕ
  pub k : ℕ
  pub column : k < f.width
  pub at : n ≡ pixel_number f r k
  pub met : IsMetUnlessOn s f r k

-- the segments across some rows of a frame that a piece meets are noted, and only bits of segments that it meets are gained
pub record NotesAcross (s : Span) (f : Frame) (from to : ℕ) (old new : List ℕ) : Type 0 where
  pub noted : (r : ℕ) → from ≤ r → r < to → IsNotedAcross s f new r
  pub gained : GainOnly (IsAcrossBit s f) old new

-- the same of those up to some rows
pub record NotesUp (s : Span) (f : Frame) (from to : ℕ) (old new : List ℕ) : Type 0 where
  pub noted : (r : ℕ) → from ≤ r → r < to → IsNotedUp s f new r
  pub gained : GainOnly (IsUpBit s f) old new
