use Rattle.std.proofs.Common.{refl, subst}
use Rattle.fx_contour.specs.Bounds.{IsLeast, DoesReach, Extends, HavePoint}
use Rattle.fx_contour.proofs.Drawing.{reach_tested, no_points_near}
use Rattle.fx_contour.proofs.curves.are_in_reach.Goals as goal

pub returns-in-None : goal.returns-in-None
returns-in-None c = (λ _. no_points_near c.of.result c.args.points.now c.in-None.is c.of.ensures, λ _. refl)

pub returns-in-Some : goal.returns-in-Some
returns-in-Some c =
    let points = c.args.points.now in
    let e = c.in-Some.extent in
    reach_tested c.keeps_limit.result e points c.keeps_limit.ensures
    (subst (λ x. IsLeast (DoesReach Extends x) (λ P. HavePoint P points)) c.in-Some.is c.of.ensures)
