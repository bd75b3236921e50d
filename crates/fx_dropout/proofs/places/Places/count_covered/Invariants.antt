use Rattle.std.proofs.Common.{◌+◌, ◌≤◌}
use Rattle.fx_dropout.specs.Dropout.{IsCount}
use Rattle.fx_dropout.specs.inner.Places.{IsCoveredIn}
use Rattle.fx_dropout.proofs.places.Places.count_covered.Given as goal

abbrev pub invariant-places : goal.invariant-places
invariant-places l = record {
  counted : IsCount (λ n. IsCoveredIn l.self (n + l.from)) l.n l.count;
  few : l.count ≤ l.n;
}
