-- Pieces near the origin, as those of an outline are. One that is stretched across may lie further out.
use Rattle.std.specs.Prelude.{◌^◌}
use Rattle.fx_fixed.specs.Ranges.{IsWithin}
use Rattle.fx_winding.specs.declared.point.Piece.{Piece}
use Rattle.fx_winding.specs.Area.{Place}
use Rattle.fx_winding.specs.Outside.{HasAll}
use Rattle.fx_winding.specs.Winding.{span_of}

-- a place lies within 2^22 of the origin, across and up
pub record IsNearPlace (p : Place) : Type 0 where
  pub across : IsWithin (2 ^ 22) p.x
  pub up : IsWithin (2 ^ 22) p.y

-- so does each point of a piece
abbrev pub IsNear : Piece → Type 0
IsNear s = HasAll IsNearPlace (span_of s)
