use Rattle.std.proofs.Common.{◌≡◌, ◌++◌, take, drop, map}
use Rattle.fx_zone.specs.Interpolation.{placed_along}
use Rattle.fx_zone.proofs.interpolation.place_run.Given as goal

abbrev pub invariant-run : goal.invariant-run
invariant-run l =
    l.points ≡ map (placed_along l.axis l.lo_org l.lo_cur l.hi_org l.hi_cur) (take l.point-index l.initial.points)
    ++ drop l.point-index l.initial.points
