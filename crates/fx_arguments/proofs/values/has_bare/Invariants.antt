use Rattle.std.proofs.Common.{◌≡◌, drop}
use Rattle.std.specs.List.{list_any}
use Rattle.fx_arguments.specs.Arguments.{is_bare, texts}
use Rattle.fx_arguments.proofs.values.has_bare.Given as goal

abbrev pub invariant-words : goal.invariant-words
invariant-words l = list_any is_bare (texts l.words) ≡ list_any is_bare (texts (drop l.word-index l.words))
