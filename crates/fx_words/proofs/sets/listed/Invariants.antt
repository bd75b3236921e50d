use Rattle.std.proofs.Common.{◌≡◌, map, take}
use Rattle.fx_words.specs.Parts.{texts}
use Rattle.fx_words.specs.Sets.{meant}
use Rattle.fx_words.proofs.sets.listed.Given as goal

-- the parts so far were replaced
abbrev pub invariant-parts : goal.invariant-parts
invariant-parts l = texts l.lists.items ≡ map meant (texts (take l.part-index l.part-items))
