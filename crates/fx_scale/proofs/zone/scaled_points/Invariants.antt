use Rattle.std.proofs.Common.{◌≡◌, ◌+◌, ◌++◌, length, map, take}
use Rattle.fx_scale.specs.Zones.{scaled_point}
use Rattle.fx_scale.proofs.zone.scaled_points.Given as goal

abbrev pub invariant-points : goal.invariant-points
invariant-points g l = record {
  done : take l.number l.scaled.items ++ map (scaled_point l.scale) (g.S.PointSource.left l.left)
      ≡ map (scaled_point l.scale) (g.S.PointSource.left l.fn.source);
  left : l.number + length (g.S.PointSource.left l.left) ≡ l.fn.count;
  len : length l.scaled.items ≡ l.fn.count;
}

abbrev pub decreases-points : goal.decreases-points
decreases-points g l = length (g.S.PointSource.left l.left)
