use Rattle.std.proofs.Common.{◌≡◌, ◌++◌, drop, false}
use Rattle.fx_words.specs.Parts.{list_values, texts}
use Rattle.fx_words.proofs.parts.list_values.Given as goal

-- the words so far have these values
abbrev pub invariant-words : goal.invariant-words
invariant-words l =
    texts l.values.items ++ list_values l.is_next (texts (drop l.word-index l.words)) ≡ list_values false (texts l.words)
