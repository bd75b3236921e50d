use Rattle.fx_contour.proofs.Enclosing.{Enclosed}
use Rattle.fx_contour.proofs.extent.Extent.of_contours.Given as goal

abbrev pub invariant-contours : goal.invariant-contours
invariant-contours l = Enclosed l.extent l.start l.outline.ends.items l.end-index l.outline.points.items
