-- The symmetries of the grid of pixels that the laws speak of, and where they move places, pieces and pixels.
use Rattle.std.specs.Prelude.{ℤ, negsuc, ◌-ℤ◌, neg_ℤ, option_map}
use Rattle.fx_winding.specs.Area.{Place, place}
use Rattle.fx_winding.specs.Turned.{turned_place}
use Rattle.fx_winding.specs.Winding.{Span}

-- mirrored at the upright axis, so that left and right change places; upside down, mirrored at the level axis; or mirrored at the
-- diagonal, so that the coordinates change places
pub data Symmetry : Type 0 where
  Mirror : Symmetry
  Flip : Symmetry
  Exchange : Symmetry

-- where a symmetry moves a place
abbrev pub place_in : Symmetry → Place → Place
place_in Mirror p = place (neg_ℤ p.x) p.y
place_in Flip p = place p.x (neg_ℤ p.y)
place_in Exchange p = turned_place p

-- a piece with its points moved so, in the same order
abbrev pub span_in : Symmetry → Span → Span
span_in m s = record { a = place_in m s.a; b = option_map (place_in m) s.b; c = place_in m s.c }

-- the column of a pixel, moved; the column left of the upright axis is the mirrored one of column 0
abbrev pub col_in : Symmetry → ℤ → ℤ → ℤ
col_in Mirror i j = negsuc 0 -ℤ i
col_in Flip i j = i
col_in Exchange i j = j

-- the row of a pixel, moved; the row below the level axis is that of row 0
abbrev pub row_in : Symmetry → ℤ → ℤ → ℤ
row_in Mirror i j = j
row_in Flip i j = negsuc 0 -ℤ j
row_in Exchange i j = i
