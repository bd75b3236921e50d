-- Pieces in a band of rows.
use Rattle.std.specs.Prelude.{◌⊎◌, ℕ, ◌-◌, ◌≤◌, ◌<◌, List, pos, ◌+ℤ◌, ◌≤ℤ◌}
use Rattle.fx_winding.specs.declared.frame.Frame.{Frame}
use Rattle.fx_winding.specs.Near.{IsNear}
use Rattle.fx_winding.specs.Notes.{IsNotedAcross}
use Rattle.fx_winding.specs.Winding.{Span, span_of}
use Rattle.fx_winding.specs.declared.point.Piece.{Piece}
use Rattle.fx_rows.specs.declared.across.Across.{Across}
use Rattle.fx_rows.specs.declared.band.Band.{Band}
use Rattle.fx_rows.specs.declared.heights.RowRange.{RowRange}
use Rattle.fx_rows.specs.declared.piece_in_band.PieceInBand.{PieceInBand}
use Rattle.fx_rows.specs.inner.Bulging.{IsBulge}
use Rattle.fx_rows.specs.inner.Heights.{height_of, IsMissed, IsAtMostEnds, IsAtLeastEnds}
use Rattle.fx_rows.specs.inner.Points.{IsInner, AreAcross}
use Rattle.fx_rows.specs.inner.Telling.{AreRowsAdded, AreRowsNoted, AreRowsTold, KeepsFor, Saying}
use Rattle.fx_rows.specs.inner.Telling.{of_frame, met_in, Way, across_row, up_to_row}
use Rattle.fx_rows.specs.inner.Told.{IsEndIn}

-- of the rows of a frame from one to before another these pass between the ends of a piece, and those before and after them do not
pub record AreBetween (s : Span) (f : Frame) (from to : ℕ) (part : RowRange) : Type 0 where
  pub low : from ≤ part.first
  pub high : part.end ≤ to
  pub inner : (r : ℕ) → part.first ≤ r → r < part.end → IsInner s.a.y s.c.y (height_of f r)
  pub under : (r : ℕ) → from ≤ r → r < part.first → IsAtMostEnds s (height_of f r)
  pub over : (r : ℕ) → part.end ≤ r → r < to → IsAtLeastEnds s (height_of f r)

-- the rows that do not, unless the piece misses them, are noted
abbrev pub AreOthersMet : (Saying → Type 0) → Span → Frame → ℕ → ℕ → Type 0
AreOthersMet Says s f from to = (r : ℕ) → from ≤ r → r < to → ¬ (IsInner s.a.y s.c.y (height_of f r))
    → ¬ (IsMissed s (height_of f r)) → Says (met_in s (f.bottom +ℤ pos r))

-- what a piece adds to the rows of a band from one to before another: those between its ends are told, and the others noted
pub record IsPieceAdded (T : ℕ → ℕ → Type 0) (Old New : Saying → Type 0) (s : Span) (from to : ℕ) (old new : Band)
    (inner : RowRange) : Type 0 where
  pub rows : AreRowsAdded T s from to old new
  pub kept : KeepsFor s Old New
  pub between : AreBetween s old.frame from to inner
  pub others : AreOthersMet New s old.frame from to

-- a piece is to be noted next in some rows of a frame: where its columns end in those between its ends is told, the others that it
-- can touch are noted, and it is noted in the rows below these
pub record IsDue (Says : Saying → Type 0) (IsTold : ℕ → ℕ → Type 0) (p : Piece) (f : Frame) (rows inner : RowRange)
    : Type 0 where
  pub frame : Says (of_frame f)
  pub near : IsNear p
  pub within : rows.end ≤ f.height
  pub some : rows.first < rows.end
  pub between : AreBetween (span_of p) f rows.first rows.end inner
  pub told : AreRowsTold (λ r. IsTold (r - rows.first)) (span_of p) f rows.first rows.end
  pub others : AreOthersMet Says (span_of p) f rows.first rows.end
  pub before : AreRowsNoted Says (span_of p) rows.first

-- a frame has all columns of a piece's box
abbrev pub IsBoxed : Frame → Span → Type 0
IsBoxed f s = AreAcross s f.left (f.left +ℤ pos f.width)

-- what a piece meets in a way is noted apart, for all rows with the first band: if the frame lacks a column of its box, and up to
-- rows also if it is an arc that bulges
abbrev pub IsApart : Frame → Span → Way → Type 0
IsApart f s across_row = ¬ (IsBoxed f s)
IsApart f s up_to_row = IsBulge s ⊎ ¬ (IsBoxed f s)

-- the columns of a piece's box, all of which a frame has
pub record AreColumns (f : Frame) (s : Span) (a : Across) : Type 0 where
  pub across : AreAcross s a.first a.end
  pub low : f.left ≤ℤ a.first
  pub high : a.end ≤ℤ (f.left +ℤ pos f.width)

-- the rows of a band that are between a piece's ends, and the columns of its box, all of which the frame has
pub record IsInBand (s : Span) (p : PieceInBand) : Type 0 where
  pub between : AreBetween s p.frame p.rows.first p.rows.end p.inner
  pub columns : AreColumns p.frame s p.across

-- of a list with a number for each row of a band, where the columns end in the rows between the piece's ends
abbrev pub AreEndsTold : List ℕ → Span → PieceInBand → Type 0
AreEndsTold ends s p = AreRowsTold (λ r. IsEndIn ends (r - p.rows.first)) s p.frame p.rows.first p.rows.end

-- the segments that a piece meets across the rows of a band are noted, but for those between its ends
abbrev pub AreOthersNoted : Span → PieceInBand → List ℕ → Type 0
AreOthersNoted s p across = (r : ℕ) → p.rows.first ≤ r → r < p.rows.end → ¬ (IsInner s.a.y s.c.y (height_of p.frame r))
    → ¬ (IsMissed s (height_of p.frame r)) → IsNotedAcross s p.frame across r
