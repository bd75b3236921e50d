use Rattle.std.proofs.Common.{ap, arith, ◌∙◌, ◌<◌, length, List, get_or}
use Rattle.fx_zone.specs.declared.point.ZonePoint.{ZonePoint}
use Rattle.fx_zone.specs.Figures.{Figure}
use Rattle.fx_zone.proofs.Laying.{more_written}
use Rattle.fx_hint.specs.Placing.{laid}
use Rattle.fx_hint.proofs.placing.lay_points.Goals as goal

pub points-preserved : goal.points-preserved
points-preserved c =
    let n = c.len-count.ensures in
    let inside : c.points.number < length c.args.zone.now.points = omega arith in
    let read = c.index-points-number.is
    ∙ ap (λ (ps : List ZonePoint). get_or ps c.points.number c.index-points-number.result) c.points-in-points.ensures in
    record {
      points = ap (λ (f : Figure). f.points) c.set.ensures.value
          ∙ more_written (laid c.args.component.now c.args.offset.now) c.args.zone.now.points c.points.zone.points c.points.number
          c.resting-point.result c.index-points-number.result inside c.points.invariant.points
          (rw (c.plus.ensures, c.turned.ensures) at c.resting-point.ensures
          ∙ ap (laid c.args.component.now c.args.offset.now) read);
      ends = ap (λ (f : Figure). f.ends) c.set.ensures.value ∙ c.points.invariant.ends;
      count = c.set.ensures.shape.points ∙ c.points.invariant.count;
    }
