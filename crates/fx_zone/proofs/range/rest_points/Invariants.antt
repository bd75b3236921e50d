use Rattle.std.proofs.Common.{◌≡◌, ◌++◌, take, drop, map}
use Rattle.fx_zone.specs.Points.{rested}
use Rattle.fx_zone.proofs.range.rest_points.Given as goal

abbrev pub invariant-points : goal.invariant-points
invariant-points l =
    l.points ≡ map (rested l.by) (take l.point-index l.initial.points) ++ drop l.point-index l.initial.points
