use Rattle.std.proofs.Common.{◌≡◌, ◌⊎◌, ◌≤◌, ◌<◌, ℕ, pos, ◌+ℤ◌, ◌≤ℤ◌, ◌<ℤ◌, length}
use Rattle.fx_dropout.specs.inner.Places.{count_at, mark_at}
use Rattle.fx_dropout.proofs.places.Places.add_run.Given as goal

abbrev pub invariant-places : goal.invariant-places
invariant-places l = record {
  long : length l.self.counts ≡ 128;
  run : (k : ℕ) → l.run.first ≤ℤ pos k → k < l.n → count_at l.self k ≡ count_at l.fn.self k +ℤ l.run.value;
  others : (k : ℕ) → (pos k <ℤ l.run.first) ⊎ (l.n ≤ k) → count_at l.self k ≡ count_at l.fn.self k;
  marks : (k : ℕ) → mark_at l.self k ≡ mark_at l.fn.self k;
}
