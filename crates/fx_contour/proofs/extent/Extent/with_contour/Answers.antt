use Rattle.std.proofs.Common.{subst, Option, sym}
use Rattle.fx_contour.specs.declared.extent.Extent.{Extent}
use Rattle.fx_contour.specs.Curve.{curve_of}
use Rattle.fx_contour.specs.Frames.{HaveAny}
use Rattle.fx_contour.specs.Bounds.{Grows, DoesReach, Extends}
use Rattle.fx_contour.proofs.Enclosing.{grown_more, grown_first}
use Rattle.fx_contour.proofs.extent.Extent.with_contour.Goals as goal

pub returns-in-None : goal.returns-in-None
returns-in-None c =
    let P : Option Extent → Type 0 =
    λ b. Grows (DoesReach Extends b) (DoesReach Extends c.of.result) (λ P. HaveAny P (curve_of c.args.points.now)) in
    subst P (sym c.in-None.is) (grown_first c.of.result c.args.points.now c.if-points-lt2.false c.of.ensures)

pub returns-in-Some : goal.returns-in-Some
returns-in-Some c =
    let P : Option Extent → Type 0 =
    λ b. Grows (DoesReach Extends b) (Extends c.with_points.result) (λ P. HaveAny P (curve_of c.args.points.now)) in
    subst P (sym c.in-Some.is)
    (grown_more c.in-Some.extent c.with_points.result c.args.points.now c.if-points-lt2.false c.with_points.ensures)
