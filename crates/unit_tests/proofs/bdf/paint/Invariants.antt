use Rattle.std.proofs.Common.{◌≡◌, ℕ, ◌≤◌}
use Rattle.fx_winding.specs.Bitmaps.{word_bit}
use Rattle.unit_tests.proofs.bdf.paint.Given as goal

abbrev pub invariant-loop-k : goal.invariant-loop-k
invariant-loop-k l = (i : ℕ) → l.k ≤ i → word_bit l.words i ≡ 0
