use Rattle.std.proofs.Common.{ℕ, ◌-◌, ◌<◌, ◌≤◌, length, get_or}
use Rattle.fx_cmap.proofs.rising.RisingCodes.halved.Given as goal

-- the codes before the low number are below the code, and that of the high one is not
abbrev pub invariant-halving : goal.invariant-halving
invariant-halving l = record {
  ordered : l.low ≤ l.high;
  within : l.high ≤ length l.self-inside.codes;
  before : (k : ℕ) → k < l.low → get_or l.self-inside.codes k 0 < l.code;
  reaches : l.high < length l.self-inside.codes → l.code ≤ get_or l.self-inside.codes l.high 0;
}

abbrev pub decreases-halving : goal.decreases-halving
decreases-halving l = l.high - l.low
