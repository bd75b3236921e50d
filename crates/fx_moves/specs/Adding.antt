-- Sums over tuples, each point's exact.
use Rattle.std.specs.Prelude.{ℕ, ℤ, ◌+ℤ◌, ◌*ℤ◌, ◌≤◌, ◌<◌, ◌+◌, ◌*◌, ◌^◌, unsigned_abs, List, length, map, slice_index_or}
use Rattle.fx_moves.specs.declared.point.GivenPoint.{GivenPoint}

-- a point's sum, and how far a tuple moves the point as far as it counts
abbrev pub added : ℤ → GivenPoint → GivenPoint
added scalar p = record p { sum = p.sum +ℤ p.moved *ℤ scalar }

-- the sums of points
abbrev pub sums : List GivenPoint → List ℤ
sums points = map (λ p. p.sum) points

-- none is further from 0 than n tuples reach
pub record AreWithin (n : ℕ) (sums : List ℤ) : Type 0 where
  pub each : (k : ℕ) (d : ℤ) → k < length sums → unsigned_abs (slice_index_or sums k d) ≤ n * 2 ^ 105

-- the first n points are no further from 0 than before and what one tuple adds
pub record AreNear (n : ℕ) (xs ys : List GivenPoint) : Type 0 where
  pub each : (k : ℕ) (d : GivenPoint) → k < n
      → unsigned_abs (slice_index_or ys k d).sum ≤ unsigned_abs (slice_index_or xs k d).sum + 2 ^ 105
