use Rattle.std.proofs.lemmas.Int.{to_z-of_z}
use Rattle.std.proofs.Common.{arith}
use Rattle.fx_contour.proofs.bounds.PieceBounds.doubled.Goals as goal

pub returns : goal.returns
returns c = grind (arith, c.requires, c.twice.ensures, c.twice-2.ensures, c.twice-3.ensures, c.twice-4.ensures, to_z-of_z)
