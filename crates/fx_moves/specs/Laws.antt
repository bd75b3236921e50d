-- What the definitions imply: how tuples move points.
use Rattle.std.specs.Prelude.{◌≡◌, ◌≢◌, ℕ, zero, suc, ℤ, ◌*ℤ◌, ◌≤ℤ◌, List, Option, Result, Ok, Err, Bool}
use Rattle.fx_tuples.specs.declared.fault.TupleFault.{TupleFault}
use Rattle.fx_tuples.specs.Tuples.{PointNumbersView, TupleView, TupleSettingView, TupleCursorView, next_tuple}
use Rattle.fx_moves.specs.declared.point.GivenPoint.{GivenPoint}
use Rattle.fx_moves.specs.declared.inferring.Named.{Named}
use Rattle.fx_moves.specs.Inferred.{one, inferred_of}
use Rattle.fx_moves.specs.Moves.{tuples_added}

-- none of the next n tuples counts, as far as they can be read
abbrev pub after_read : (TupleView → TupleCursorView → Type 0) → Result (TupleView × TupleCursorView) TupleFault → Type 0
after_read P (Ok r) = P r.0 r.1
after_read P (Err f) = Unit {0}

abbrev pub NoneCounts : TupleSettingView → Option PointNumbersView → ℕ → TupleCursorView → Type 0
NoneCounts s numbers zero c = Unit {0}
NoneCounts s numbers (suc n) c = after_read (λ t d. (t.scalar ≡ 0) × NoneCounts s numbers n d) (next_tuple s numbers c)

-- tuples none of which counts move no point
abbrev pub AddNothing : Type 0
AddNothing =
    (s : TupleSettingView) (ends : List ℕ) (second : Bool) (numbers : Option PointNumbersView) (n : ℕ) (c : TupleCursorView)
    (ps qs : List GivenPoint)
    → NoneCounts s numbers n c
    → tuples_added s ends second numbers n c ps ≡ Ok qs
    → qs ≡ ps

-- a delta in 1 / 65536 lies between two whole ones
pub record IsBetween (a b d : ℤ) : Type 0 where
  pub rising : a ≤ℤ b → ((a *ℤ one) ≤ℤ d) × (d ≤ℤ (b *ℤ one))
  pub falling : b ≤ℤ a → ((b *ℤ one) ≤ℤ d) × (d ≤ℤ (a *ℤ one))

-- an inferred delta lies between those of its two neighbours, unless these have one coordinate
abbrev pub InferredIsBetween : Type 0
InferredIsBetween =
    (x : ℤ) (before after : Named) → before.at ≢ after.at → IsBetween before.delta after.delta (inferred_of x before after)
