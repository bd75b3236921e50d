-- The heights of rows, and pieces that rows miss.
use Rattle.std.specs.Prelude.{◌⊎◌, ℕ, ◌^◌, ◌≤◌, ◌<◌, ℤ, pos, ◌+ℤ◌, ◌*ℤ◌, ◌≤ℤ◌, ◌<ℤ◌, IsSomeAnd}
use Rattle.fx_fixed.specs.Ranges.{IsWithin}
use Rattle.fx_winding.specs.Outside.{HasAll}
use Rattle.fx_winding.specs.Winding.{Span, IsBeforeTurn}
use Rattle.fx_winding.specs.declared.frame.Frame.{Frame}
use Rattle.fx_rows.specs.inner.Points.{IsInner}
use Rattle.fx_rows.specs.inner.Runs.{IsSplitFrom}

-- the control values of a quadratic are near
abbrev pub AreNear : ℤ → ℤ → ℤ → Type 0
AreNear a b c = IsWithin (2 ^ 30) a × IsWithin (2 ^ 30) b × IsWithin (2 ^ 30) c

-- the height of the centres of a frame's row, counted from the lowest
abbrev pub height_of : Frame → ℕ → ℤ
height_of f r = pos 128 *ℤ (f.bottom +ℤ pos r) +ℤ pos 64

-- the rows of a frame from one to before another do not pass between the ends of a piece
abbrev pub AreOutside : Span → Frame → ℕ → ℕ → Type 0
AreOutside s f from to = (r : ℕ) → from ≤ r → r < to → ¬ (IsInner s.a.y s.c.y (height_of f r))

-- a piece is an arc that turns before it comes to this height from its ends
abbrev pub IsPastTurn : Span → ℤ → Type 0
IsPastTurn s y = IsSomeAnd s.b (λ b. ¬ (IsBeforeTurn s.a.y b.y s.c.y y))

-- a piece is above this height: all its points are, or it is an arc whose ends are and that turns before
abbrev pub IsAbove : Span → ℤ → Type 0
IsAbove s y = HasAll (λ q. y <ℤ q.y) s ⊎ ((y <ℤ s.a.y) × (y <ℤ s.c.y) × IsPastTurn s y)

-- a piece is below it
abbrev pub IsBelow : Span → ℤ → Type 0
IsBelow s y = HasAll (λ q. q.y <ℤ y) s ⊎ ((s.a.y <ℤ y) × (s.c.y <ℤ y) × IsPastTurn s y)

-- one of both
abbrev pub IsMissed : Span → ℤ → Type 0
IsMissed s y = IsAbove s y ⊎ IsBelow s y

-- one of a piece's ends is below this height
abbrev pub IsOneUnder : Span → ℤ → Type 0
IsOneUnder s y = (s.a.y <ℤ y) ⊎ (s.c.y <ℤ y)

-- one of the ends is above it
abbrev pub IsOneOver : Span → ℤ → Type 0
IsOneOver s y = (y <ℤ s.a.y) ⊎ (y <ℤ s.c.y)

-- no point of a piece is below this height, and one of its ends is above it
abbrev pub IsResting : Span → ℤ → Type 0
IsResting s y = HasAll (λ q. y ≤ℤ q.y) s × IsOneOver s y

-- no point is above it, and one of the ends is below it
abbrev pub IsHanging : Span → ℤ → Type 0
IsHanging s y = HasAll (λ q. q.y ≤ℤ y) s × IsOneUnder s y

-- neither end is below this height
abbrev pub IsAtMostEnds : Span → ℤ → Type 0
IsAtMostEnds s y = (y ≤ℤ s.a.y) × (y ≤ℤ s.c.y)

-- neither end is above it
abbrev pub IsAtLeastEnds : Span → ℤ → Type 0
IsAtLeastEnds s y = (s.a.y ≤ℤ y) × (s.c.y ≤ℤ y)

-- of a frame's rows from one to before another, those from first to before end have their centres above one height and below
-- another, and no others
pub record AreAmong (low high : ℤ) (f : Frame) (least past first end : ℕ) : Type 0 where
  pub foot : IsSplitFrom (λ r. height_of f r ≤ℤ low) (λ r. low <ℤ height_of f r) least past first
  pub head : IsSplitFrom (λ r. height_of f r <ℤ high) (λ r. high ≤ℤ height_of f r) first past end
