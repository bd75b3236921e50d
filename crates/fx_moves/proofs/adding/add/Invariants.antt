use Rattle.std.proofs.Common.{◌≡◌, ◌++◌, take, drop, map}
use Rattle.fx_moves.specs.Adding.{added, AreNear}
use Rattle.fx_moves.proofs.adding.add.Given as goal

-- the points that were seen have their sums, which are near those before
abbrev pub invariant-points : goal.invariant-points
invariant-points l = record {
  same : l.points ≡ map (added l.scalar) (take l.point-index l.initial.points) ++ drop l.point-index l.initial.points;
  near : AreNear l.point-index l.initial.points l.points;
}
