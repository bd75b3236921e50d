use Rattle.std.proofs.Common.{◌≡◌, ◌<◌, ℕ, get_or}
use Rattle.fx_dropout.proofs.open.is_any.Given as goal

abbrev pub invariant-words : goal.invariant-words
invariant-words l = l.bits ≡ 0 → (k : ℕ) → k < l.w → get_or l.words k 0 ≡ 0
