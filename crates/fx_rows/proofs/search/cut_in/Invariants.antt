use Rattle.std.proofs.Common.{ℕ, ◌-◌, ◌<◌, ◌≤◌}
use Rattle.fx_rows.specs.inner.Runs.{gap_at, slope_at, IsBefore}
use Rattle.fx_rows.proofs.search.cut_in.Given as goal

abbrev pub invariant-columns : goal.invariant-columns
invariant-columns l = record {
  order : l.low ≤ l.high;
  from : l.start ≤ l.low;
  within : l.high ≤ l.stop;
  before : (k : ℕ) → l.start ≤ k → k < l.low → IsBefore l.cut (slope_at l.g k) (gap_at l.g k);
  rest : (k : ℕ) → l.high ≤ k → k < l.stop → ¬ (IsBefore l.cut (slope_at l.g k) (gap_at l.g k));
}

abbrev pub decreases-columns : goal.decreases-columns
decreases-columns l = l.high - l.low
