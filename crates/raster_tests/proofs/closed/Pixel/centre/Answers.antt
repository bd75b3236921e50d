use Rattle.std.proofs.Common.{arith}
use Rattle.fx_fixed.proofs.Linear.{signed}
use Rattle.fx_winding.proofs.Swept.{moved}
use Rattle.raster_tests.proofs.closed.Pixel.centre.Goals as goal

pub returns : goal.returns
returns c = moved (λ p. p) (omega (arith, signed)) (omega (arith, signed))
