use Rattle.std.proofs.Common.{arith}
use Rattle.std.proofs.lemmas.Grind.{common_steps}
use Rattle.fx_glyf.proofs.flags.measured.Goals as goal

pub runs-preserved : goal.runs-preserved
runs-preserved c = grind (arith, common_steps)
