use Rattle.std.proofs.Common.{◌≡◌, length, take}
use Rattle.fx_arguments.specs.Chars.{numbers_from}
use Rattle.fx_arguments.proofs.chars.put_range.Given as goal

-- the first k numbers are written
abbrev pub invariant-numbers : goal.invariant-numbers
invariant-numbers l = record {
  front : take l.k l.numbers ≡ numbers_from l.low l.k;
  size : length l.numbers ≡ length l.fn.numbers;
}
