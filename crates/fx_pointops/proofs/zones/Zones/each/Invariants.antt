use Rattle.std.proofs.Common.{◌≡◌, ◌≤◌, length, take, reverse}
use Rattle.fx_pointops.specs.Loops.{each}
use Rattle.fx_pointops.specs.inner.Steps.{steps_of}
use Rattle.fx_pointops.proofs.zones.Zones.each.Given as goal

abbrev pub invariant-points : goal.invariant-points
invariant-points l = record {
  answer : each (steps_of l.g l.step) (reverse l.points) l.fn.self
      ≡ each (steps_of l.g l.step) (reverse (take l.left l.points)) l.self;
  within : l.left ≤ length l.points;
}

abbrev pub decreases-points : goal.decreases-points
decreases-points l = l.left
