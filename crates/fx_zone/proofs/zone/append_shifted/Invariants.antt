use Rattle.std.proofs.Common.{◌≡◌, ◌+◌, ◌-◌, ◌≤◌, ◌++◌, length, take, map, vec_len, vec_capacity}
use Rattle.fx_zone.proofs.zone.append_shifted.Given as goal

-- the numbers before this one are appended, and there is room for the others
abbrev pub invariant-numbers : goal.invariant-numbers
invariant-numbers l = record {
  done : l.numbers.items ≡ l.fn.numbers.items ++ map (λ e. l.first + e) (take l.number-index l.more);
  room : vec_len l.numbers + (length l.more - l.number-index) ≤ vec_capacity l.numbers;
}
