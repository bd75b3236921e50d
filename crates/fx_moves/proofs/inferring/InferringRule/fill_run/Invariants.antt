use Rattle.std.proofs.Common.{◌≡◌, ◌++◌, take, drop, map}
use Rattle.fx_moves.specs.Inferred.{between}
use Rattle.fx_moves.proofs.inferring.InferringRule.fill_run.Given as goal

abbrev pub invariant-run : goal.invariant-run
invariant-run l =
    l.points ≡ map (between l.before l.after) (take l.point-index l.initial.points) ++ drop l.point-index l.initial.points
