-- The work of drawing a shape, a number that is known before the shape is drawn: its frame, its pieces, the rows and columns that
-- they cross, and with drop-out control by the nearer pixel the gaps, each with the pieces that are asked for it.
use Rattle.std.specs.Prelude.{ℕ, ◌+◌, ◌*◌, ◌/◌, max, ℤ, pos, ◌+ℤ◌, ◌-ℤ◌, unsigned_abs, List, [], ◌∷◌}
use Rattle.std.specs.Int.{div_ceil, int_max, int_min}
use Rattle.std.specs.List.{sum_by}
use Rattle.std.specs.Option.{option_map_or}
use Rattle.fx_winding.specs.Area.{Place}
use Rattle.fx_winding.specs.Winding.{Span}
use Rattle.fx_contour.specs.Frames.{first_from}
use Rattle.fx_contour.specs.DropoutFrames.{x_of, y_of, least, greatest}
pub use Rattle.fx_dropout.specs.Work.{within}
use Rattle.fx_dropout.specs.Work.{closing_work}
use Rattle.fx_raster.specs.declared.rule.Rule.{Rule}
use Rattle.fx_raster.specs.declared.rule.Rule.TheVariants.{Centres, Bridged}

-- ---- pieces

-- the control point of an arc, or the end of a line
abbrev pub control_of : Span → Place
control_of s = option_map_or (λ b. b) s.b s.c

-- the rows, or columns, that points with three coordinates in 1/128 pixel cross: one more than fit whole between the least and the
-- greatest
abbrev pub crossed : ℤ → ℤ → ℤ → ℕ
crossed a b c = unsigned_abs (int_max a (int_max b c) -ℤ int_min a (int_min b c)) / 128 + 1

-- those of a piece
abbrev pub rows_of : Span → ℕ
rows_of s = crossed s.a.y (control_of s).y s.c.y

abbrev pub columns_of : Span → ℕ
columns_of s = crossed s.a.x (control_of s).x s.c.x

-- the work of a piece: 1, the rows that it crosses, and with drop-out control the columns too
abbrev pub piece_work : Rule → Span → ℕ
piece_work Centres s = 1 + rows_of s
piece_work (Bridged closing) s = 1 + rows_of s + columns_of s

-- ---- frames

-- the pixels of a row, or of a column, whose centres lie from low to high
abbrev pub centres_in : ℤ → ℤ → ℕ
centres_in low high = unsigned_abs (first_from (high +ℤ pos 1) -ℤ first_from low)

-- those of the frame of points whose coordinates go from low to high: with drop-out control at least one
abbrev pub side_of : Rule → ℤ → ℤ → ℕ
side_of Centres low high = centres_in low high
side_of (Bridged closing) low high = max 1 (centres_in low high)

-- the work of rows and columns: for each row 1 for each 256 columns or fewer
abbrev pub rows_work : ℕ → ℕ → ℕ
rows_work rows columns = rows * div_ceil columns 256

-- the work of the frame of spans
abbrev pub frame_work : Rule → List Span → ℕ
frame_work rule [] = 0
frame_work rule (s ∷ ss) = rows_work (side_of rule (least y_of s ss) (greatest y_of s ss))
    (side_of rule (least x_of s ss) (greatest x_of s ss))

-- ---- shapes

-- the work of closing the gaps of spans by a rule
abbrev pub bridging_work : Rule → List Span → ℕ
bridging_work Centres ss = 0
bridging_work (Bridged closing) ss = closing_work closing ss

-- the work of drawing spans by a rule: that of their frame, that of all pieces, and that of closing gaps
unfoldable pub drawing_work : Rule → List Span → ℕ
drawing_work rule ss = frame_work rule ss + sum_by (piece_work rule) ss + bridging_work rule ss
