-- How tuples move a coordinate of points (OpenType, "gvar", "Point numbers and processing for 'gvar'").
use Rattle.std.specs.Prelude.{ℕ, zero, suc, ℤ, pos, List, [], ◌∷◌, length, map, Option, Some, None, Result, Ok, Bool}
use Rattle.std.specs.Prelude.{◌==◌}
use Rattle.std.specs.Prelude.{if◌then◌else◌}
use Rattle.fx_fixed.specs.Chain.{◌>>=◌}
use Rattle.fx_tuples.specs.declared.fault.TupleFault.{TupleFault}
use Rattle.fx_moves.specs.declared.point.GivenPoint.{GivenPoint}
use Rattle.fx_tuples.specs.Deltas.{deltas_in}
use Rattle.fx_moves.specs.Giving.{all_given, cleared}
use Rattle.fx_between.specs.Contours.{contours_filled}
use Rattle.fx_moves.specs.Inferred.{is_named, between}
use Rattle.fx_moves.specs.Adding.{added}
use Rattle.fx_tuples.specs.Tuples.{PointNumbersView, TupleView, TupleSettingView, TupleCursorView, next_tuple}

-- n numbers from k on
unfoldable pub count_up : ℕ → ℕ → List ℕ
count_up k zero = []
count_up k (suc n) = k ∷ count_up (suc k) n

-- points with the deltas of a tuple: of all points in order; or of those that it names, and then inferred ones in contours
unfoldable pub points_moved : List ℕ → PointNumbersView → List ℤ → List GivenPoint → List GivenPoint
points_moved ends n ds points =
    if n.count == 0 then all_given (count_up 0 (length points)) ds (map cleared points)
    else contours_filled is_named between ends (length ends) (all_given n.list ds (map cleared points))

-- as many deltas as there are numbers, or points if it names all
abbrev pub delta_count : PointNumbersView → List GivenPoint → ℕ
delta_count n points = if n.count == 0 then length points else n.count

-- what a tuple adds to the sums of points, as far as it counts; one without numbers has no effect
unfoldable pub numbered_added : List ℕ → Bool → ℕ → PointNumbersView → List ℕ → List GivenPoint
    → Result (List GivenPoint) TupleFault
numbered_added ends second scalar n bytes points = do
  ds ← deltas_in second (delta_count n points) bytes
  Ok (map (added (pos scalar)) (points_moved ends n ds points))

abbrev pub added_by : List ℕ → Bool → ℕ → List ℕ → List GivenPoint → Option PointNumbersView → Result (List GivenPoint) TupleFault
added_by ends second scalar bytes points None = Ok points
added_by ends second scalar bytes points (Some n) = numbered_added ends second scalar n bytes points

unfoldable pub tuple_added : List ℕ → Bool → TupleView → List GivenPoint → Result (List GivenPoint) TupleFault
tuple_added ends second t points = added_by ends second t.scalar t.deltas points t.numbers

-- the next n tuples, one after the other; no tuple sees what another moved
unfoldable pub tuples_added : TupleSettingView → List ℕ → Bool → Option PointNumbersView → ℕ → TupleCursorView → List GivenPoint
    → Result (List GivenPoint) TupleFault
tuples_added s ends second numbers zero c points = Ok points
tuples_added s ends second numbers (suc n) c points = do
  r ← next_tuple s numbers c
  next ← tuple_added ends second r.0 points
  tuples_added s ends second numbers n r.1 next
