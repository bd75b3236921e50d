use Rattle.std.proofs.Common.{arith}
use Rattle.std.proofs.lemmas.Grind.{common_steps}
use Rattle.fx_bdf.proofs.x11.push_untaken.Goals as goal

pub more-preserved : goal.more-preserved
more-preserved c = grind (arith, common_steps)
