use Rattle.std.proofs.Common.{◌≡◌, drop}
use Rattle.fx_words.specs.Parts.{texts, value_after, value_in}
use Rattle.fx_words.proofs.parts.value_in.Given as goal

-- no word so far has the value
abbrev pub invariant-words : goal.invariant-words
invariant-words l = value_after l.fn.option l.is_next (texts (drop l.word-index l.words)) ≡ value_in l.fn.option (texts l.words)
