use Rattle.std.proofs.Common.{◌≡◌, ◌+◌, ◌-◌, ◌≤◌, vec_len, vec_capacity}
use Rattle.fx_machine.specs.Words.{points_in}
use Rattle.fx_machine.proofs.words.zone_of.Given as goal

abbrev pub invariant-points : goal.invariant-points
invariant-points l = record {
  done : l.points.items ≡ points_in l.i l.words;
  room : vec_len l.points + (l.count - l.i) ≤ vec_capacity l.points;
}
