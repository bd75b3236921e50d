use Rattle.std.proofs.Common.{arith}
use Rattle.fx_fixed.proofs.Linear.{signed_linear}
use Rattle.fx_winding.proofs.range.over_low.Goals as goal

pub returns : goal.returns
returns c = grind (arith, signed_linear, c.above_low.ensures.0, c.above_low.ensures.1)
