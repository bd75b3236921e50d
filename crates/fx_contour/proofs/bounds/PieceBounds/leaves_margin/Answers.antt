use Rattle.std.proofs.lemmas.Int.{to_z-of_z}
use Rattle.std.proofs.Common.{arith}
use Rattle.fx_contour.proofs.bounds.PieceBounds.leaves_margin.Goals as goal

pub returns-then-are_inner : goal.returns-then-are_inner
returns-then-are_inner c = grind (arith, c.are_inner.ensures, c.are_inner-then-are_inner.ensures, c.if-are_inner.true, to_z-of_z)
