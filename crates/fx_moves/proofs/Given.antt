-- Deltas given to points, one at a time, as `one_more` says.
-- For `give`.
use Rattle.std.proofs.Common.{◌≡◌, ℕ, ℤ, List, [], ◌∷◌, refl}
use Rattle.fx_moves.specs.declared.point.GivenPoint.{GivenPoint}
use Rattle.fx_moves.specs.Giving.{one_given, all_given}

given_step : (n : ℕ) (ns : List ℕ) (d : ℤ) (ds : List ℤ) (points : List GivenPoint)
    → all_given (n ∷ ns) (d ∷ ds) points ≡ all_given ns ds (one_given n d points)
unfolding all_given
given_step n ns d ds points = refl

given_out : (ns : List ℕ) (points : List GivenPoint) → all_given ns [] points ≡ points
unfolding all_given
given_out [] points = refl
given_out (n ∷ ns) points = refl

given_none : (ds : List ℤ) (points : List GivenPoint) → all_given [] ds points ≡ points
unfolding all_given
given_none ds points = refl

-- one more was given
pub one_more : (n : ℕ) (ms ns : List ℕ) (d : ℤ) (cs ds : List ℤ) (points next : List GivenPoint) → ms ≡ n ∷ ns → cs ≡ d ∷ ds
    → next ≡ one_given n d points → all_given ns ds next ≡ all_given ms cs points
one_more n ms ns d cs ds points next e f g = rw (e, f, g) (rw (given_step n ns d ds points) refl)

pub out_of_deltas : (ms : List ℕ) (cs : List ℤ) (points : List GivenPoint) → cs ≡ [] → points ≡ all_given ms cs points
out_of_deltas ms cs points e = rw (e, given_out ms points) refl

pub out_of_numbers : (ms : List ℕ) (cs : List ℤ) (points : List GivenPoint) → ms ≡ [] → points ≡ all_given ms cs points
out_of_numbers ms cs points e = rw (e, given_none cs points) refl

pub ruleset give_steps = (one_more, out_of_deltas, out_of_numbers)
