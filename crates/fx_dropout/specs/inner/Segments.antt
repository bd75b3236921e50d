-- What the segments of a frame cost, by their bits: the gaps among them have their prices, the others nothing.
use Rattle.std.specs.Prelude.{ℕ, ◌/◌, ◌%◌, ◌==◌, nat_le, nat_lt, ◌&&◌, if◌then◌else◌, ℤ, pos, ◌+ℤ◌, ◌-ℤ◌, Bool, true, false}
use Rattle.std.specs.Prelude.{List, map, Option, Some, None}
use Rattle.fx_winding.specs.Area.{Place}
use Rattle.fx_winding.specs.Bitmaps.{word_bit}
use Rattle.fx_winding.specs.Winding.{Span, centre, span_of}
use Rattle.fx_winding.specs.declared.frame.Frame.{Frame}
use Rattle.fx_dropout.specs.Work.{gap_price}
use Rattle.fx_dropout.specs.declared.work.Gaps.{Gaps}
use Rattle.fx_dropout.specs.inner.Closing.{stride}
use Rattle.fx_dropout.specs.inner.Pairs.{seen_spans}

-- the centre of the pixel before a column, which is counted from the first of a frame's row; none past the column after the last
abbrev pub start_across : ℤ → ℕ → ℤ → ℕ → ℕ → ℕ → Option Place
start_across left width bottom height column row =
    if nat_le column width && nat_lt row height then Some (centre ((left -ℤ pos 1) +ℤ pos column) (bottom +ℤ pos row)) else None

-- the place from which the segment m comes, with its coordinates exchanged up columns; none if it is not one of the frame's
abbrev pub segment_start : Bool → Frame → ℕ → Option Place
segment_start false f m = start_across f.left f.width f.bottom f.height (m % stride f) (m / stride f)
segment_start true f m = start_across f.bottom f.height f.left f.width (m / stride f) (m % stride f)

-- the price of a gap after a place, if there is one
abbrev pub start_price : List Span → Option Place → ℕ
start_price ss None = 0
start_price ss (Some p) = gap_price ss p

-- what the segment m costs
unfoldable pub segment_price : Bool → Frame → List Span → List ℕ → ℕ → ℕ
segment_price up f ss bits m =
    if word_bit bits m == 1 then start_price (seen_spans up ss) (segment_start up f m) else 0

-- the same of gaps as the code has them
abbrev pub price_of : Gaps → ℕ → ℕ
price_of g m = segment_price g.is_up g.frame (map span_of g.pieces.now) g.bits.now m
