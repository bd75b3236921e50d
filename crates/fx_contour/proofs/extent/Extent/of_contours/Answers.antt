use Rattle.std.proofs.Common.{◌≡◌, ◌<◌, ◌+◌, ◌-◌, ◌∙◌, ap, subst, get_or, length, take, drop, arith, List}
use Rattle.fx_outline.specs.declared.points.OutlinePoint.{OutlinePoint}
use Rattle.fx_contour.specs.Curve.{curve_of}
use Rattle.fx_contour.specs.Frames.{HaveAny}
use Rattle.fx_contour.specs.Bounds.{Grows, DoesReach, Extends}
use Rattle.fx_contour.proofs.Gather.{next_within}
use Rattle.fx_contour.proofs.Enclosing.{enclosed_more, enclosed_end}
use Rattle.fx_contour.proofs.extent.Extent.of_contours.Goals as goal

pub contour-requires : goal.contour-requires
contour-requires c =
    let a = c.deref-end-items.ensures.value in let b = c.deref.ensures.value in let d = c.contours.invariant.ends_left in
    let e = c.from-next.ensures in grind (arith, next_within)

pub contours-preserved : goal.contours-preserved
contours-preserved c =
    let o = c.args.outline.now in
    let start = c.contours.start in
    let next = c.from-next.result + 1 in
    let ends = c.deref-end-items.ensures.value in
    let inside : c.contours.end-index < length o.ends.items = (let e = ap length ends in omega arith) in
    let slice : c.contour.result.now ≡ take (next - start) (drop start o.points.items) =
    c.contour.ensures ∙ ap (λ xs. take (next - start) (drop start xs)) c.deref.ensures.value in
    let P : List OutlinePoint → Type 0 =
    λ xs. Grows (DoesReach Extends c.contours.extent) (DoesReach Extends c.with_contour-extent.result)
    (λ P. HaveAny P (curve_of xs)) in
    enclosed_more c.contours.extent c.with_contour-extent.result start o.ends.items c.contours.end-index o.points.items
    c.from-next.result 0 c.contours.invariant inside
    (c.from-next.ensures ∙ ap (λ xs. get_or xs c.contours.end-index 0) ends) (subst P slice c.with_contour-extent.ensures)

pub returns : goal.returns
returns c =
    let o = c.args.outline.now in
    let ends = ap length c.deref-end-items.ensures.value in
    enclosed_end c.contours.extent c.contours.start o.ends.items c.contours.end-index o.points.items c.contours.invariant
    (omega arith)
