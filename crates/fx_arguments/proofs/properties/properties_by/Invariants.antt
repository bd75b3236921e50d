use Rattle.std.proofs.Common.{◌≡◌}
use Rattle.fx_arguments.specs.Arguments.{properties_by, texts}
use Rattle.fx_arguments.proofs.Given.{rest_of}
use Rattle.fx_arguments.proofs.properties.properties_by.Given as goal

abbrev pub invariant-given : goal.invariant-given
invariant-given l = properties_by (texts l.given) ≡ rest_of l.all.items l.given l.text-index
