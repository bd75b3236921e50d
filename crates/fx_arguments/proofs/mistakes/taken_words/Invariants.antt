use Rattle.std.proofs.Common.{◌≡◌, ◌≤◌, length}
use Rattle.fx_arguments.specs.Arguments.{texts}
use Rattle.fx_arguments.specs.Mistakes.{taken_words}
use Rattle.fx_arguments.proofs.mistakes.taken_words.Given as goal

-- no longer beginning is taken
abbrev pub invariant-shorter : goal.invariant-shorter
invariant-shorter l = record {
  longest : taken_words l.verb (texts l.words) (length l.words) ≡ taken_words l.verb (texts l.words) l.n;
  within : l.n ≤ length l.words;
}

abbrev pub decreases-shorter : goal.decreases-shorter
decreases-shorter l = l.n
