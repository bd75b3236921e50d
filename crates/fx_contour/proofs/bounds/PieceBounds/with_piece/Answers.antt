use Rattle.std.proofs.Common.{arith}
use Rattle.fx_contour.proofs.Growing.{span_grows}
use Rattle.fx_contour.proofs.bounds.PieceBounds.with_piece.Goals as goal

pub returns : goal.returns
returns c = grind (arith, c.with_point.ensures, c.with_control.ensures, c.with_point-2.ensures, span_grows)
