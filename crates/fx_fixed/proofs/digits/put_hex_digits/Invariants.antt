use Rattle.std.proofs.Common.{◌≡◌, ◌+◌, ◌-◌, ◌<◌, ◌≤◌, ◌^◌, ◌++◌, true, length, drop}
use Rattle.std.specs.Fmt.{digits, digits_onto}
use Rattle.fx_fixed.proofs.digits.put_hex_digits.Given as goal

abbrev pub invariant-digits : goal.invariant-digits
invariant-digits l = record {
  within : l.at ≤ l.end;
  some : l.end < l.at + 16;
  long : length l.buffer ≡ length l.fn.buffer;
  digits : digits_onto (l.at + 64 - l.end) 16 true l.left (drop l.at l.buffer)
      ≡ digits 16 true l.number ++ drop l.end l.fn.buffer;
  fits : l.left < 16 ^ (l.at + 16 - l.end);
}

abbrev pub decreases-digits : goal.decreases-digits
decreases-digits l = l.left
