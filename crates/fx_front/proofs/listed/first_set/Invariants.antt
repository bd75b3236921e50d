use Rattle.std.proofs.Common.{◌≡◌, drop}
use Rattle.fx_words.specs.Parts.{texts}
use Rattle.fx_front.specs.Listed.{first_set}
use Rattle.fx_front.proofs.listed.first_set.Given as goal

-- no item so far is one
abbrev pub invariant-items : goal.invariant-items
invariant-items l = first_set (texts (drop l.item-index l.items)) ≡ first_set (texts l.items)
