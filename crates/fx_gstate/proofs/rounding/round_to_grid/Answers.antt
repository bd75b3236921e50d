use Rattle.std.proofs.Common.{arith}
use Rattle.std.proofs.lemmas.Int.{ints}
use Rattle.fx_gstate.specs.Rounding.{rounded_of, to_grid}
use Rattle.fx_gstate.proofs.Rounded.{same_rounded}
use Rattle.fx_gstate.proofs.rounding.round_to_grid.Goals as goal

pub returns-clause-value : goal.returns-clause-value
unfolding rounded_of
returns-clause-value c = same_rounded to_grid c.args.d _ (omega (arith, ints)) c.on_grid.ensures
