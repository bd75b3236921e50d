use Rattle.std.proofs.Common.{◌+◌, ◌<◌, ◌≤◌, length}
use Rattle.fx_strike.proofs.characters.run_below.Given as goal

abbrev pub invariant-halving : goal.invariant-halving
invariant-halving l = record {
  some : 0 < l.count;
  inside : l.from + l.count ≤ length l.codes;
}

abbrev pub decreases-halving : goal.decreases-halving
decreases-halving l = l.count
