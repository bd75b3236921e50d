use Rattle.std.proofs.Common.{◌≡◌, take, drop, []}
use Rattle.fx_axes.specs.Places.{check_values}
use Rattle.fx_axes.proofs.places.check_values.Given as goal

-- no value before k has a fault
abbrev pub invariant-values : goal.invariant-values
invariant-values l = check_values l.fvar (take l.k l.values) (drop l.k l.values) ≡ check_values l.fvar [] l.values
