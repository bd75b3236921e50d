use Rattle.std.proofs.Common.{take}
use Rattle.fx_words.specs.Parts.{texts}
use Rattle.fx_front.specs.Lines.{Says}
use Rattle.fx_front.specs.Meant.{or_others}
use Rattle.fx_front.proofs.meant.add_others.Given as goal

-- the words so far were added
abbrev pub invariant-others : goal.invariant-others
invariant-others l = Says l.fn.text l.text (or_others (texts (take l.other-index l.others)))
