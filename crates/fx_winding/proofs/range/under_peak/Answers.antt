use Rattle.std.proofs.Common.{arith}
use Rattle.fx_fixed.proofs.Linear.{signed_linear}
use Rattle.fx_winding.proofs.range.under_peak.Goals as goal

pub returns : goal.returns
returns c = grind (arith, signed_linear, c.below_high.ensures.0, c.below_high.ensures.1)
