-- Two neighbours: a pixel and, with `false`, the one to its right or, with `true`, the one above it, which is its right
-- neighbour if the coordinates are exchanged.
use Rattle.std.specs.Prelude.{◌≡◌, ℤ, pos, ◌+ℤ◌, Bool, true, false, List, map, Option, Some, None}
use Rattle.fx_winding.specs.declared.frame.Frame.{Frame}
use Rattle.fx_winding.specs.Frames.{IsInFrame}
use Rattle.fx_winding.specs.Turned.{turned_span}
use Rattle.fx_winding.specs.Winding.{Span}

-- the column and the row of the neighbour
abbrev pub next_col : Bool → ℤ → ℤ
next_col false col = col +ℤ pos 1
next_col true col = col

abbrev pub next_row : Bool → ℤ → ℤ
next_row false row = row
next_row true row = row +ℤ pos 1

-- pieces, and the column and the row of a pixel, as they are or, with `true`, with their coordinates exchanged
abbrev pub seen_span : Bool → Span → Span
seen_span false s = s
seen_span true s = turned_span s

abbrev pub seen_spans : Bool → List Span → List Span
seen_spans false ss = ss
seen_spans true ss = map turned_span ss

abbrev pub seen_col : Bool → ℤ → ℤ → ℤ
seen_col false col row = col
seen_col true col row = row

abbrev pub seen_row : Bool → ℤ → ℤ → ℤ
seen_row false col row = row
seen_row true col row = col

-- the column and the row of a pixel, seen so, if its neighbour lies in the frame, and else none
abbrev pub IsPairIn : Frame → Bool → ℤ → ℤ → Option (ℤ × ℤ) → Type 0
IsPairIn f up col row None = ¬ (IsInFrame f (next_col up col) (next_row up row))
IsPairIn f up col row (Some p) =
    IsInFrame f (next_col up col) (next_row up row) × (p.0 ≡ seen_col up col row) × (p.1 ≡ seen_row up col row)
