-- Runs and columns of a frame.
use Rattle.std.specs.Prelude.{ℤ, ◌≤ℤ◌, ◌<ℤ◌}
use Rattle.fx_fixed.specs.Ranges.{IsWithin}
use Rattle.fx_winding.specs.declared.frame.Frame.{Frame}
use Rattle.fx_winding.specs.Frames.{IsFrom}
use Rattle.fx_rows.specs.declared.part.Run.{Run}
use Rattle.fx_rows.specs.declared.part.OnRow.{OnRow}
use Rattle.fx_rows.specs.declared.part.OnRow.TheVariants.{None as Nowhere, One, Two, Range}

-- a column of the frame
abbrev pub IsColumn : Frame → ℤ → Type 0
IsColumn frame col = IsFrom frame.left frame.width col

-- a run of the frame's columns with a value of at most 1 in size
pub record IsRunInside (frame : Frame) (r : Run) : Type 0 where
  pub first : IsColumn frame r.first
  pub last : IsColumn frame r.last
  pub order : r.first ≤ℤ r.last
  pub small : IsWithin 1 r.value

-- the named columns lie in the frame, in their order
abbrev pub IsOnInside : Frame → OnRow → Type 0
IsOnInside frame Nowhere = Unit {0}
IsOnInside frame (One i) = IsColumn frame i
IsOnInside frame (Two i j) = IsColumn frame i × IsColumn frame j × (i <ℤ j)
IsOnInside frame (Range i j) = IsColumn frame i × IsColumn frame j × (i <ℤ j)
