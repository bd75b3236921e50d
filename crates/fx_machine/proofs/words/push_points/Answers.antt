use Rattle.std.proofs.Common.{rules}
use Rattle.fx_machine.specs.Words.{IsPoint, point_words}
use Rattle.fx_machine.proofs.PointsMore.{all_more, many_words_more}
use Rattle.fx_machine.proofs.words.push_points.Goals as goal

pub points-preserved : goal.points-preserved
points-preserved c = record {
  done = many_words_more point_words c.args.points.now c.points.point-index c.point-item.result c.point-item.result _ _ _
      c.points-test.true (search rules) c.points.invariant.done c.in_ok-push_point.ensures.words;
  numbered = all_more IsPoint c.args.points.now c.points.point-index c.point-item.result c.points-test.true
      c.points.invariant.numbered (search rules);
}
