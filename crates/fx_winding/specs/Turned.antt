-- Pieces with their coordinates exchanged: their columns are rows. Drop-out control speaks of columns by them.
use Rattle.std.specs.Prelude.{option_map}
use Rattle.fx_winding.specs.Area.{Place, place}
use Rattle.fx_winding.specs.Winding.{Span}

-- a place with its coordinates exchanged
abbrev pub turned_place : Place → Place
turned_place p = place p.y p.x

-- a piece with its coordinates exchanged: its columns are rows
abbrev pub turned_span : Span → Span
turned_span s = record { a = turned_place s.a; b = option_map turned_place s.b; c = turned_place s.c }
