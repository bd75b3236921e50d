use Rattle.std.proofs.Common.{◌<◌, length, arith}
use Rattle.fx_trace.specs.Changes.{point_change}
use Rattle.fx_trace.proofs.Pairs.{pairs_none, pairs_more, pairs_all}
use Rattle.fx_trace.proofs.changes.add_points.Goals as goal

pub points-init : goal.points-init
points-init g c = pairs_none (point_change c.args.zone) c.args.was.now c.args.now.now

pub points-preserved : goal.points-preserved
points-preserved g c =
    let below : c.points.i < length c.args.was.now = omega (arith, c.points-test.true, c.min-i-end.ensures) in
    let within : c.points.i < length c.args.now.now = omega (arith, c.points-test.true, c.min-i-end.ensures) in
    pairs_more (point_change c.args.zone) c.index-was-i.result c.index-now-i.result c.points.invariant
    c.index-was-i.is c.index-now-i.is below within c.add_point.ensures

pub returns : goal.returns
returns g c =
    pairs_all (point_change c.args.zone) c.points.invariant
    (omega (arith, c.points-test.false, c.points.auto.i-end, c.min-i-end.ensures))
