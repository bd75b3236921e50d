use Rattle.std.proofs.Common.{◌≡◌, ◌*◌, ◌/◌, ◌≤◌, ℕ}
use Rattle.fx_fixed.proofs.vectors.root.Given as goal

abbrev pub invariant-guesses : goal.invariant-guesses
invariant-guesses l = record {
  positive : 1 ≤ l.guess;
  bound : l.guess ≤ 32768;
  quotient : l.quotient ≡ l.n / l.guess;
  above : (k : ℕ) → k * k ≤ l.n → k ≤ l.guess;
}

abbrev pub decreases-guesses : goal.decreases-guesses
decreases-guesses l = l.guess
