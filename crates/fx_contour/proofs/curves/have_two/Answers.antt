use Rattle.std.proofs.Common.{arith}
use Rattle.std.proofs.lemmas.Grind.{common_steps}
use Rattle.fx_contour.proofs.curves.have_two.Goals as goal

pub contours-preserved : goal.contours-preserved
contours-preserved c = grind (arith, common_steps)
