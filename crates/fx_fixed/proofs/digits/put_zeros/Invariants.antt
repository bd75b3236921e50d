use Rattle.std.proofs.Common.{◌≡◌, ◌-◌, ◌≤◌, ◌++◌, length, drop, replicate}
use Rattle.fx_fixed.proofs.digits.put_zeros.Given as goal

abbrev pub invariant-zeros : goal.invariant-zeros
invariant-zeros l = record {
  before : l.at ≤ l.first;
  long : length l.buffer ≡ length l.fn.buffer;
  few : l.first - l.at ≤ l.least - (l.end - l.first);
  zeros : drop l.at l.buffer ≡ replicate (l.first - l.at) 48 ++ drop l.first l.fn.buffer;
}

abbrev pub decreases-zeros : goal.decreases-zeros
decreases-zeros l = l.at
