-- What a tuple gives to points: its deltas at the numbers that it names.
use Rattle.std.specs.Prelude.{ℕ, ℤ, pos, ◌*ℤ◌, true, false, List, [], ◌∷◌, Option, Some, None, option_map, slice_get, slice_set}
use Rattle.fx_moves.specs.declared.point.GivenPoint.{GivenPoint}
use Rattle.fx_moves.specs.Inferred.{one}

-- a point that no tuple has named yet
abbrev pub cleared : GivenPoint → GivenPoint
cleared p = record p { named = false; delta = pos 0; moved = pos 0 }

-- a point that is given a delta
abbrev pub moved_by : ℤ → GivenPoint → GivenPoint
moved_by d p = record p { named = true; delta = d; moved = d *ℤ one }

-- a list with the point of a number given a delta; nothing if the number is outside
abbrev pub with_point : ℕ → List GivenPoint → Option GivenPoint → List GivenPoint
with_point n points None = points
with_point n points (Some p) = slice_set points n p

unfoldable pub one_given : ℕ → ℤ → List GivenPoint → List GivenPoint
one_given n d points = with_point n points (option_map (moved_by d) (slice_get points n))

-- the numbers and their deltas, one after the other: of a number that is named twice the last delta counts
unfoldable pub all_given : List ℕ → List ℤ → List GivenPoint → List GivenPoint
all_given [] ds points = points
all_given (n ∷ ns) [] points = points
all_given (n ∷ ns) (d ∷ ds) points = all_given ns ds (one_given n d points)
