use Rattle.std.proofs.Common.{arith}
use Rattle.fx_strike.proofs.Mapping.{rising_on}
use Rattle.fx_strike.proofs.characters.run_below.Goals as goal

pub returns-then-last-end-clause-below : goal.returns-then-last-end-clause-below
returns-then-last-end-clause-below c i a b =
    grind (arith, c.requires.rise, c.halving.invariant.inside, c.if-last-end.true, rising_on)
