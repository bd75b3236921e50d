use Rattle.std.proofs.Common.{arith}
use Rattle.std.proofs.lemmas.Grind.{common_steps}
use Rattle.fx_machine.proofs.PointsMore.{point_added}
use Rattle.fx_machine.proofs.words.zone_of.Goals as goal

pub points-preserved : goal.points-preserved
points-preserved c = record {
  done = point_added _ _ c.points.i c.point_in.result c.args.words.now c.push_reserved.ensures.items c.points.invariant.done
      (grind (arith, common_steps));
  room = grind (arith, common_steps);
}
