use Rattle.std.proofs.Common.{◌≡◌, drop}
use Rattle.fx_axes.specs.Places.{value_of}
use Rattle.fx_axes.proofs.places.value_of.Given as goal

-- no value before this one has the tag
abbrev pub invariant-values : goal.invariant-values
invariant-values l = value_of l.fn.axis (drop l.value-index l.values) ≡ value_of l.fn.axis l.values
