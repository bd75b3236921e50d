use Rattle.std.proofs.Common.{arith}
use Rattle.fx_contour.proofs.Framed.{too_large_is}
use Rattle.fx_contour.proofs.Decided.{framed_is}
use Rattle.fx_contour.proofs.Outside.{nothing_outside_frame}
use Rattle.fx_contour.proofs.frames.frame.Goals as goal

pub returns-clause-outside : goal.returns-clause-outside
returns-clause-outside c = grind (arith, c.as_slice.ensures.value, c.of.ensures, c.frame_around.ensures.ok, nothing_outside_frame)

pub returns-clause-too_large : goal.returns-clause-too_large
returns-clause-too_large c =
    grind (arith, c.as_slice.ensures.value, c.of.ensures, c.frame_around.ensures.ok, c.frame_around.ensures.fault, too_large_is)

pub returns-clause-exact : goal.returns-clause-exact
returns-clause-exact c =
    grind (arith, c.as_slice.ensures.value, c.of.ensures, c.frame_around.ensures.ok, c.frame_around.ensures.fault, framed_is)
