use Rattle.std.proofs.Common.{◌≡◌, ◌++◌, length, map, take, drop}
use Rattle.fx_hint.specs.Placing.{laid}
use Rattle.fx_hint.proofs.placing.lay_points.Given as goal

abbrev pub invariant-points : goal.invariant-points
invariant-points l = record {
  points : l.zone.points ≡
      map (laid l.component l.offset) (take l.number l.initial.zone.points) ++ drop l.number l.initial.zone.points;
  ends : l.zone.ends ≡ l.initial.zone.ends;
  count : length l.zone.points ≡ length l.initial.zone.points;
}
