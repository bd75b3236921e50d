use Rattle.std.proofs.Common.{◌≡◌, ◌⊎◌, ◌≤◌, ◌<◌, ℕ, pos, ◌≤ℤ◌, ◌<ℤ◌, true}
use Rattle.fx_dropout.specs.inner.Places.{count_at, mark_at}
use Rattle.fx_dropout.proofs.places.Places.mark.Given as goal

abbrev pub invariant-places : goal.invariant-places
invariant-places l = record {
  counts : (k : ℕ) → count_at l.self k ≡ count_at l.fn.self k;
  run : (k : ℕ) → l.first ≤ℤ pos k → k < l.n → mark_at l.self k ≡ true;
  others : (k : ℕ) → (pos k <ℤ l.first) ⊎ (l.n ≤ k) → mark_at l.self k ≡ mark_at l.fn.self k;
}
