use Rattle.std.proofs.Common.{arith}
use Rattle.fx_contour.proofs.Growing.{stays, no_control}
use Rattle.fx_contour.proofs.bounds.PieceBounds.with_control.Goals as goal

pub returns-in-None : goal.returns-in-None
returns-in-None c = grind (arith, c.in-None.is, stays, no_control)
