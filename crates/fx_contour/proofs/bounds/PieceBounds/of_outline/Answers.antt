use Rattle.std.proofs.Common.{subst}
use Rattle.fx_contour.specs.Bounds.{IsLeast, DoesReach, Extends}
use Rattle.fx_contour.specs.Frames.{HaveAny}
use Rattle.fx_contour.specs.Contours.{spans_of}
use Rattle.fx_contour.proofs.Drawing.{curves_keep}
use Rattle.fx_contour.proofs.bounds.PieceBounds.of_outline.Goals as goal

pub doubled-requires : goal.doubled-requires
doubled-requires c =
    let o = c.args.outline.now in
    let e = c.in-Some.extent in
    curves_keep e o.ends.items o.points.items
    (subst (λ x. IsLeast (DoesReach Extends x) (λ P. HaveAny P (spans_of o.ends.items o.points.items))) c.in-Some.is
    c.of_curves.ensures) c.requires.reach
