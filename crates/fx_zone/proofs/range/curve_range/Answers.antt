use Rattle.std.proofs.Common.{arith}
use Rattle.fx_zone.specs.Figures.{in_range}
use Rattle.fx_zone.specs.Points.{curved}
use Rattle.fx_zone.proofs.Changing.{range_chooses, range_inside, range_begun, range_step, range_whole}
use Rattle.fx_zone.proofs.range.curve_range.Goals as goal

pub range-init : goal.range-init
range-init c = range_begun _ _ _ _ _ (range_chooses c.args.first c.args.past)

pub range-preserved : goal.range-preserved
range-preserved c =
    range_step (in_range c.args.first c.args.past) (curved c.args.on) c.range.number c.args.points.now c.range.points
    c.index-points-number.result c.curved.result c.range.invariant (omega arith)
    (range_inside c.args.first c.args.past c.range.number (omega arith) (omega arith)) c.index-points-number.is c.curved.ensures

pub returns : goal.returns
returns c = range_whole _ _ _ _ _ _ _ c.range.invariant (range_chooses c.args.first c.args.past) (omega arith)
