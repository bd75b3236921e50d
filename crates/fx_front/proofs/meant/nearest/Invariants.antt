use Rattle.std.proofs.Common.{◌≡◌, ◌≤◌, [], fold, take}
use Rattle.std.specs.Prelude.{string_bytes}
use Rattle.fx_words.specs.Parts.{texts}
use Rattle.fx_front.specs.Meant.{nearer}
use Rattle.fx_front.proofs.meant.nearest.Given as goal

-- the nearest words so far, and their distance
abbrev pub invariant-words : goal.invariant-words
invariant-words l = (l.least ≤ 3)
    × ((l.least, texts l.found.items) ≡ fold (nearer (string_bytes l.word)) (3, []) (texts (take l.each-index l.words)))
