use Rattle.std.proofs.Common.{arith}
use Rattle.std.proofs.lemmas.Result.{err_from_is_err_and}
use Rattle.fx_contour.proofs.Decided.{drawn_in_reach}
use Rattle.fx_contour.proofs.Kept.{nothing_outside_dropout}
use Rattle.fx_contour.proofs.dropout_frames.dropout_frame.Goals as goal

pub returns-in_err-outline_bounds-clause-exact : goal.returns-in_err-outline_bounds-clause-exact
returns-in_err-outline_bounds-clause-exact c =
    grind (arith, c.from_residual.ensures.1, c.in_err-outline_bounds.ensures.fault, err_from_is_err_and)

pub returns-clause-exact : goal.returns-clause-exact
returns-clause-exact c = grind (arith, c.in_ok-outline_bounds.ensures, c.dropout_frame_around.ensures.exact, drawn_in_reach)

pub returns-clause-ok : goal.returns-clause-ok
returns-clause-ok c = grind (arith, c.dropout_frame_around.ensures.ok, c.in_ok-outline_bounds.ensures.ok)

pub returns-clause-outside : goal.returns-clause-outside
returns-clause-outside c =
    grind (arith, c.dropout_frame_around.ensures.ok, c.in_ok-outline_bounds.ensures.ok, nothing_outside_dropout)

pub returns-clause-reach : goal.returns-clause-reach
returns-clause-reach c = grind (arith, c.in_ok-outline_bounds.ensures, c.dropout_frame_around.ensures.ok)
