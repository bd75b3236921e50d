use Rattle.std.proofs.Common.{◌≡◌, ◌++◌, take, drop, map}
use Rattle.fx_moves.specs.Giving.{cleared}
use Rattle.fx_moves.proofs.giving.clear.Given as goal

abbrev pub invariant-points : goal.invariant-points
invariant-points l = l.points ≡ map cleared (take l.point-index l.initial.points) ++ drop l.point-index l.initial.points
