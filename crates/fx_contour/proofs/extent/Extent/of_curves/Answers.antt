use Rattle.std.proofs.Common.{subst}
use Rattle.fx_contour.specs.Bounds.{Extends, HaveTwo}
use Rattle.fx_contour.proofs.Drawing.{curves_reach}
use Rattle.fx_contour.proofs.extent.Extent.of_curves.Goals as goal

pub returns-then-have_two : goal.returns-then-have_two
returns-then-have_two c =
    let o = c.args.outline.now in
    let two = subst (HaveTwo 0) c.deref.ensures.value (c.have_two.ensures.0 c.if-have_two.true) in
    curves_reach (Extends c.args.all) o.ends.items o.points.items o.contours two c.requires
