use Rattle.std.proofs.Common.{arith}
use Rattle.fx_fixed.proofs.Linear.{signed_linear}
use Rattle.fx_winding.proofs.segment.is_within.Goals as goal

pub returns : goal.returns
returns c = grind (arith, signed_linear)
