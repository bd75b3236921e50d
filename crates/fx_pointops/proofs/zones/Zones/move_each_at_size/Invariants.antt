use Rattle.std.proofs.Common.{◌≡◌, ◌≤◌, length, take, reverse}
use Rattle.fx_gstate.specs.Deltas.{each_pair}
use Rattle.fx_pointops.specs.Delta.{point_delta}
use Rattle.fx_pointops.proofs.zones.Zones.move_each_at_size.Given as goal

abbrev pub invariant-pairs : goal.invariant-pairs
invariant-pairs l = record {
  answer : each_pair (point_delta l.g l.form l.ppem) (reverse l.pairs) l.fn.self
      ≡ each_pair (point_delta l.g l.form l.ppem) (reverse (take l.left l.pairs)) l.self;
  within : l.left ≤ length l.pairs;
}

abbrev pub decreases-pairs : goal.decreases-pairs
decreases-pairs l = l.left
