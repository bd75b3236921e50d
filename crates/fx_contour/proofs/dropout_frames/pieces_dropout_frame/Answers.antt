use Rattle.std.proofs.Common.{arith}
use Rattle.fx_contour.proofs.Kept.{nothing_outside_dropout}
use Rattle.fx_contour.proofs.dropout_frames.pieces_dropout_frame.Goals as goal

pub returns-clause-outside : goal.returns-clause-outside
returns-clause-outside c =
    grind (arith, c.as_slice.ensures.value, c.of.ensures, c.dropout_frame_around.ensures.ok, nothing_outside_dropout)
