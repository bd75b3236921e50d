use Rattle.std.proofs.Common.{◌≡◌, ◌+◌, ◌≤◌, ◌++◌, length, vec_len, vec_capacity}
use Rattle.fx_scale.proofs.zone.contour_ends.Given as goal

abbrev pub invariant-contours : goal.invariant-contours
invariant-contours l = record {
  done : l.numbers.items ++ l.end-iterator ≡ l.simple.ends;
  room : vec_len l.numbers + length l.end-iterator ≤ vec_capacity l.numbers;
}
