use Rattle.std.proofs.Common.{arith}
use Rattle.std.proofs.lemmas.Grind.{common_steps}
use Rattle.fx_bdf.proofs.words.start_of.Goals as goal

pub words-preserved : goal.words-preserved
words-preserved c = grind (arith, common_steps)
