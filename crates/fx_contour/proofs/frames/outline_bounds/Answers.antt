use Rattle.std.proofs.Common.{List, All, subst}
use Rattle.fx_outline.specs.declared.points.OutlinePoint.{OutlinePoint}
use Rattle.fx_contour.specs.Bounds.{IsLeast, DoesReach, Extends, HavePoint}
use Rattle.fx_contour.specs.Contours.{IsInReach}
use Rattle.fx_contour.proofs.Decided.{drawn_far}
use Rattle.fx_contour.proofs.Drawing.{reach_tested, no_points_near, no_points_no_bounds}
use Rattle.fx_contour.proofs.frames.outline_bounds.Goals as goal

pub returns-in_default-clause-reach : goal.returns-in_default-clause-reach
returns-in_default-clause-reach c =
    let P : List OutlinePoint → Type 0 = λ xs. IsLeast (DoesReach Extends c.of.result) (λ P. HavePoint P xs) in
    no_points_near c.of.result c.args.outline.now.points.items c.in_default.is (subst P c.deref.ensures.value c.of.ensures)

pub returns-in_default-clause-ok : goal.returns-in_default-clause-ok
returns-in_default-clause-ok c =
    let o = c.args.outline.now in
    let P : List OutlinePoint → Type 0 = λ xs. IsLeast (DoesReach Extends c.of.result) (λ P. HavePoint P xs) in
    no_points_no_bounds c.of.result o.ends.items o.points.items c.in_default.is (subst P c.deref.ensures.value c.of.ensures)

pub returns-then-not-keeps_limit-clause-fault : goal.returns-then-not-keeps_limit-clause-fault
returns-then-not-keeps_limit-clause-fault c =
    let o = c.args.outline.now in
    let xs = c.deref.result.now in
    let h = subst (λ x. IsLeast (DoesReach Extends x) (λ P. HavePoint P xs)) c.in-Some.is c.of.ensures in
    drawn_far o.ends.items o.points.items xs c.keeps_limit.result c.deref.ensures.value
    (reach_tested c.keeps_limit.result c.in-Some.all xs c.keeps_limit.ensures h) c.if-not-keeps_limit.true

pub of_outline-requires-clause-reach : goal.of_outline-requires-clause-reach
of_outline-requires-clause-reach c =
    let xs = c.deref.result.now in
    let h = subst (λ x. IsLeast (DoesReach Extends x) (λ P. HavePoint P xs)) c.in-Some.is c.of.ensures in
    let n = (reach_tested c.keeps_limit.result c.in-Some.all xs c.keeps_limit.ensures h).0 c.if-not-keeps_limit.false in
    subst (All IsInReach) c.deref.ensures.value n

pub returns-clause-reach : goal.returns-clause-reach
returns-clause-reach c =
    let xs = c.deref.result.now in
    let h = subst (λ x. IsLeast (DoesReach Extends x) (λ P. HavePoint P xs)) c.in-Some.is c.of.ensures in
    let n = (reach_tested c.keeps_limit.result c.in-Some.all xs c.keeps_limit.ensures h).0 c.if-not-keeps_limit.false in
    subst (All IsInReach) c.deref.ensures.value n
