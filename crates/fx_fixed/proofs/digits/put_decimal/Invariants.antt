use Rattle.std.proofs.Common.{◌≡◌, ◌+◌, ◌-◌, ◌<◌, ◌≤◌, ◌^◌, ◌++◌, length, drop}
use Rattle.std.specs.Fmt.{decimal}
use Rattle.fx_fixed.proofs.digits.put_decimal.Given as goal

abbrev pub invariant-digits : goal.invariant-digits
invariant-digits l = record {
  within : l.at ≤ l.end;
  some : l.end < l.at + 20;
  long : length l.buffer ≡ length l.fn.buffer;
  digits : decimal l.number ++ drop l.end l.fn.buffer ≡ decimal l.left ++ drop l.at l.buffer;
  fits : l.left < 10 ^ (l.at + 20 - l.end);
}

abbrev pub decreases-digits : goal.decreases-digits
decreases-digits l = l.left
