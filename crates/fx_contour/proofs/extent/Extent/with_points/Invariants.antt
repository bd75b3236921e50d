use Rattle.std.proofs.Common.{drop}
use Rattle.fx_contour.proofs.Enclosing.{Left}
use Rattle.fx_contour.proofs.extent.Extent.with_points.Given as goal

abbrev pub invariant-points : goal.invariant-points
invariant-points l = Left l.fn.self l.extent l.points (drop l.p-index l.points)
