use Rattle.std.proofs.Common.{◌≡◌, ◌∙◌, ◌<◌, ap, arith, length, min}
use Rattle.std.proofs.lemmas.List.{length-set}
use Rattle.mkstrike_c.specs.Outlines.{point_of}
use Rattle.mkstrike_c.proofs.Ids.{front_more, rest_more, ids_front}
use Rattle.mkstrike_c.proofs.outlines.put_points.Goals as goal

pub points-preserved : goal.points-preserved
points-preserved c =
    let room : c.points.i < length c.points.buffer = omega (arith, c.points.invariant.same, c.points-test.true) in
    record {
      same = length-set c.points.buffer c.points.i c.point_of.result ∙ c.points.invariant.same;
      front = front_more point_of c.args.points.now c.points.buffer c.points.i c.index-points-i.result
          c.point_of.result (omega (arith, c.points-test.true)) room (c.point_of.ensures ∙ ap point_of c.index-points-i.is)
          c.points.invariant.front;
      rest = rest_more c.points.buffer c.args.buffer.now c.points.i c.point_of.result room c.points.invariant.rest;
    }

pub returns : goal.returns
returns c =
    let end : c.points.i ≡ min (length c.args.points.now) (length c.args.buffer.now) = omega (arith, c.points-test.false) in
    ids_front point_of c.args.points.now c.args.buffer.now c.points.buffer c.points.i
    c.points.invariant.same end c.points.invariant.front c.points.invariant.rest
