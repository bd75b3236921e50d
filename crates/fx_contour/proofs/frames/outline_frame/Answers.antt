use Rattle.std.proofs.Common.{arith}
use Rattle.std.proofs.lemmas.Result.{err_from_is_err_and}
use Rattle.fx_contour.proofs.Decided.{outline_framed_is}
use Rattle.fx_contour.proofs.Outside.{nothing_outside_frame}
use Rattle.fx_contour.proofs.frames.outline_frame.Goals as goal

pub returns-in_err-outline_bounds-clause-exact : goal.returns-in_err-outline_bounds-clause-exact
returns-in_err-outline_bounds-clause-exact c =
    grind (arith, c.from_residual.ensures.1, c.in_err-outline_bounds.ensures.fault, err_from_is_err_and)

pub returns-clause-exact : goal.returns-clause-exact
returns-clause-exact c =
    grind (arith, c.in_ok-outline_bounds.ensures, c.frame_around.ensures.ok, c.frame_around.ensures.fault, outline_framed_is)

pub returns-clause-ok : goal.returns-clause-ok
returns-clause-ok c = grind (arith, c.frame_around.ensures.ok, c.in_ok-outline_bounds.ensures.ok)

pub returns-clause-outside : goal.returns-clause-outside
returns-clause-outside c = grind (arith, c.frame_around.ensures.ok, c.in_ok-outline_bounds.ensures.ok, nothing_outside_frame)

pub returns-clause-reach : goal.returns-clause-reach
returns-clause-reach c = grind (arith, c.in_ok-outline_bounds.ensures, c.frame_around.ensures.ok)
