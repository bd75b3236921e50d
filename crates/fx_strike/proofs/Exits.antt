-- A function that a `?` leaves returns the fault that came: `came`.
-- Serves the answers at such exits.
use Rattle.std.proofs.Common.{◌≡◌, ap, Result, Ok, Err}
use Rattle.std.specs.Prelude.{IsErrAnd}

-- the fault, as this function's
pub came : {T E : Type 0} {d : E} (r : Result T E) → IsErrAnd r (λ e. e ≡ d) → r ≡ Err d
came (Ok x) h = absurd h
came (Err e) h = ap Err h
