-- Which segments between neighbouring rows of a frame a piece meets. A segment is named by its column and its upper row.
use Rattle.std.specs.Prelude.{◌≡◌, ◌⊎◌, ℕ, ◌≤◌, ◌<◌, min, max, ℤ, pos, ◌+ℤ◌, ◌-ℤ◌, ◌*ℤ◌, ◌≤ℤ◌, ◌<ℤ◌}
use Rattle.fx_winding.specs.declared.frame.Frame.{Frame}
use Rattle.fx_winding.specs.Notes.{IsMetUp}
use Rattle.fx_winding.specs.Winding.{Span, IsBetween}
use Rattle.fx_rows.specs.declared.reach.Reach.{Reach}
use Rattle.fx_rows.specs.inner.Heights.{height_of, IsResting, IsHanging}
use Rattle.fx_rows.specs.inner.Lines.{IsMetUnlessOn}
use Rattle.fx_rows.specs.inner.Points.{IsFootX, IsHeadX, IsInner}
use Rattle.fx_rows.specs.inner.Told.{IsEndOn}

-- how far right the centres of a frame's column are
abbrev pub column_of : Frame → ℕ → ℤ
column_of f k = pos 128 *ℤ (f.left +ℤ pos k) +ℤ pos 64

-- the height of the centres below those of a frame's row
abbrev pub height_below : Frame → ℕ → ℤ
height_below f r = pos 128 *ℤ ((f.bottom -ℤ pos 1) +ℤ pos r) +ℤ pos 64

-- the segments up to a row that a piece meets are in the columns from one on and before another
abbrev pub AreMetWithin : Span → Frame → ℕ → ℕ → ℕ → Type 0
AreMetWithin s f r from to = (k : ℕ) → k < f.width → IsMetUp s f r k → (from ≤ k) × (k < to)

-- the segments up to rows that a piece meets are in columns between its ends
abbrev pub AreMetBetween : Span → Frame → Type 0
AreMetBetween s f = (r k : ℕ) → k < f.width → IsMetUp s f r k → IsBetween s.a.x s.c.x (column_of f k)

-- a piece meets the segments up to a row in the columns from one on and before another, but for those an end of which is on it
abbrev pub AreAllMet : Span → Frame → ℕ → ℕ → ℕ → Type 0
AreAllMet s f r from to = (k : ℕ) → from ≤ k → k < to → k < f.width → IsMetUnlessOn s f r k

-- the columns of a frame whose centres are at x
pub record AreAt (f : Frame) (x : ℤ) (c : Reach) : Type 0 where
  pub within : c.end ≤ f.width
  pub left : (k : ℕ) → k < c.first → column_of f k <ℤ x
  pub from : (k : ℕ) → c.first ≤ k → k < f.width → x ≤ℤ column_of f k
  pub to : (k : ℕ) → k < c.end → column_of f k ≤ℤ x
  pub right : (k : ℕ) → c.end ≤ k → k < f.width → x <ℤ column_of f k

-- the columns of a frame at the lower end of a piece, and those at its upper one
pub record AreAtFoot (s : Span) (f : Frame) (c : Reach) : Type 0 where
  pub x : ℤ
  pub is : IsFootX s x
  pub at : AreAt f x c

pub record AreAtHead (s : Span) (f : Frame) (c : Reach) : Type 0 where
  pub x : ℤ
  pub is : IsHeadX s x
  pub at : AreAt f x c

-- a piece passes a row of the plane, which is between its ends, at no column's centre but before one column
pub record IsPassing (s : Span) (f : Frame) (row : ℤ) (c : Reach) : Type 0 where
  pub inner : IsInner s.a.y s.c.y (pos 128 *ℤ row +ℤ pos 64)
  pub same : c.first ≡ c.end
  pub is : IsEndOn s f row c.end

-- a piece comes up to a row from these columns: it passes the row below there, or rests on that with its lower end there
abbrev pub IsLow : Span → Frame → ℕ → Reach → Type 0
IsLow s f r c = IsPassing s f ((f.bottom -ℤ pos 1) +ℤ pos r) c ⊎ (IsResting s (height_below f r) × AreAtFoot s f c)

-- it goes up to a row to these columns: it passes the row there, or hangs from it with its upper end there
abbrev pub IsHigh : Span → Frame → ℕ → Reach → Type 0
IsHigh s f r c = IsPassing s f (f.bottom +ℤ pos r) c ⊎ (IsHanging s (height_of f r) × AreAtHead s f c)

-- the segments up to a row that a piece meets are those in the columns from one on and before another
pub record IsLevel (s : Span) (f : Frame) (r from to : ℕ) : Type 0 where
  pub within : AreMetWithin s f r from to
  pub all : AreAllMet s f r from to

-- a piece comes up to a row from these columns of a frame: to whichever columns it goes there
pub record ComesFrom (s : Span) (f : Frame) (r : ℕ) (low : Reach) : Type 0 where
  pub within : low.end ≤ f.width
  pub level : (c : Reach) → IsHigh s f r c → IsLevel s f r (min low.first c.first) (max low.end c.end)

-- it goes up to a row to these columns: from whichever columns it comes
pub record GoesTo (s : Span) (f : Frame) (r : ℕ) (high : Reach) : Type 0 where
  pub within : high.end ≤ f.width
  pub level : (c : Reach) → ComesFrom s f r c → IsLevel s f r (min c.first high.first) (max c.end high.end)
