use Rattle.std.proofs.Common.{◌≡◌, ℕ, ◌<◌, ◌≤◌, length}
use Rattle.std.specs.Prelude.{slice_index}
use Rattle.fx_machine.proofs.words.used_of.Given as goal

abbrev pub invariant-halves : goal.invariant-halves
invariant-halves l = record {
  inside : l.used ≤ length l.words;
  rest : (k : ℕ) → l.used ≤ k → k < length l.words → slice_index l.words k ≡ 0;
}

abbrev pub decreases-halves : goal.decreases-halves
decreases-halves l = l.used
