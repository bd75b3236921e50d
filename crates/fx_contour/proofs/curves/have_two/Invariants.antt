use Rattle.std.proofs.Common.{drop, ◌↔◌}
use Rattle.fx_contour.specs.Bounds.{HaveTwo}
use Rattle.fx_contour.proofs.curves.have_two.Given as goal

abbrev pub invariant-contours : goal.invariant-contours
invariant-contours l = HaveTwo 0 l.ends ↔ HaveTwo l.start (drop l.end-index l.ends)
