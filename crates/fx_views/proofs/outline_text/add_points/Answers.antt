use Rattle.std.proofs.Common.{refl, sym, arith, Ok}
use Rattle.fx_fixed.proofs.Texts.{adds_nothing}
use Rattle.fx_views.specs.Outlines.{point_lines}
use Rattle.fx_strike.proofs.Exits.{came}
use Rattle.fx_views.proofs.OutlineLines.{few_all, few_begin, few_then, lines_more, lines_split}
use Rattle.fx_views.proofs.outline_text.add_points.Goals as goal

pub points-init : goal.points-init
unfolding point_lines
points-init g c = few_all adds_nothing (omega arith)

pub returns-in_err-add_point : goal.returns-in_err-add_point
returns-in_err-add_point g c =
    let line = few_all {m = 88} c.in_err-add_point.ensures.text c.add_point.ensures.short in
    rw (came c.from_residual.result c.from_residual.ensures.1)
    (few_then _ (omega (arith, c.points-test.true)) (sym (lines_split c.args.ends.now c.args.points.now c.points.i
    c.contour_at-contour.result c.index-points-i.result (omega (arith, c.points-test.true)) c.contour_at-contour.ensures
    c.index-points-i.is)) c.points.invariant (few_begin {most = 88} _ (omega arith) refl line))

pub points-preserved : goal.points-preserved
points-preserved g c =
    few_then (Ok tt) (omega arith) (lines_more c.args.ends.now c.args.points.now c.points.i c.contour_at-contour.result
    c.index-points-i.result (omega (arith, c.points-test.true)) c.contour_at-contour.ensures c.index-points-i.is)
    c.points.invariant (few_all {m = 88} c.in_ok-add_point.ensures.text c.add_point.ensures.short)
