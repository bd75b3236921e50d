use Rattle.std.proofs.Common.{◌≡◌, drop}
use Rattle.fx_words.specs.Parts.{texts}
use Rattle.fx_front.specs.Listed.{first_word}
use Rattle.fx_front.proofs.listed.first_word.Given as goal

-- no item so far is one
abbrev pub invariant-items : goal.invariant-items
invariant-items l = first_word (texts (drop l.item-index l.items)) ≡ first_word (texts l.items)
