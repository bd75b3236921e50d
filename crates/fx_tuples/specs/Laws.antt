-- What the definitions imply: how far tuples count.
use Rattle.std.specs.Prelude.{◌≡◌, ℕ, ◌*◌, ◌<◌, ◌≤◌, ℤ, pos, List, length, false, slice_index_or, Option, Some, Ok}
use Rattle.fx_tuples.specs.declared.regions.Tent.{Tent}
use Rattle.fx_tuples.specs.Regions.{counts_fully, scalar_of, tent_of, whole}
use Rattle.fx_tuples.specs.Headers.{HeaderView, header_of}
use Rattle.fx_tuples.specs.Tuples.{PointNumbersView, TupleView, TupleSettingView, TupleCursorView, next_tuple}

-- no tuple counts more than 1
abbrev pub CountsAtMostOne : Type 0
CountsAtMostOne = (tents : ℕ → Tent) (place : List ℤ) (n : ℕ) → scalar_of tents place n ≤ whole

-- at the defaults, where all coordinates are 0, a tuple does not count if some axis does not count fully there: its peak is not 0,
-- its tent is in order, and 0 is not within it
abbrev pub RestsAtDefaults : Type 0
RestsAtDefaults =
    (s : TupleSettingView) (numbers : Option PointNumbersView) (c : TupleCursorView) (h : HeaderView)
    (r : TupleView × TupleCursorView) (k : ℕ)
    → ((j : ℕ) → slice_index_or s.place j (pos 0) ≡ pos 0)
    → k < length s.place
    → header_of s.shared (2 * length s.place) c.headers ≡ Some h
    → counts_fully (tent_of h.is_intermediate h.peaks h.starts h.ends k) (pos 0) ≡ false
    → next_tuple s numbers c ≡ Ok r
    → r.0.scalar ≡ 0
