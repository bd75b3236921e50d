use Rattle.std.proofs.Common.{refl, arith}
use Rattle.fx_fixed.proofs.Linear.{signed_linear}
use Rattle.raster_tests.proofs.closed.Drawing.is_inside.Goals as goal

pub returns : goal.returns
returns c = (
  λ t. record {
    column = (omega (arith, signed_linear), omega (arith, signed_linear));
    row = (omega (arith, signed_linear), omega (arith, signed_linear));
  },
  λ h. refl,
)
