-- Pieces stretched 128-fold across, about the centres of a column: the places between these and the centres of the next column
-- become centres of pixels.
use Rattle.std.specs.Prelude.{ℤ, pos, ◌+ℤ◌, ◌-ℤ◌, ◌*ℤ◌, option_map}
use Rattle.fx_winding.specs.Area.{Place, place}
use Rattle.fx_winding.specs.Winding.{Span}

-- how far right what was at x is then
abbrev pub stretched_x : ℤ → ℤ → ℤ
stretched_x col x = pos 128 *ℤ (x -ℤ (pos 128 *ℤ col +ℤ pos 64)) +ℤ pos 64

-- a place
abbrev pub stretched_place : ℤ → Place → Place
stretched_place col p = place (stretched_x col p.x) p.y

-- a piece
abbrev pub stretched_span : ℤ → Span → Span
stretched_span col s = record {
  a = stretched_place col s.a;
  b = option_map (stretched_place col) s.b;
  c = stretched_place col s.c;
}
