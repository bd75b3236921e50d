use Rattle.std.proofs.Common.{◌≡◌, drop}
use Rattle.std.specs.List.{fold}
use Rattle.fx_words.specs.Parts.{seen, start_of, step, text_in, texts}
use Rattle.fx_words.proofs.parts.part.Given as goal

-- the words that are left are parted after those so far
abbrev pub invariant-words : goal.invariant-words
invariant-words l =
    fold step (seen l.parts) (texts (drop l.word-index l.words))
    ≡ fold step (start_of (texts l.before) l.is_make (text_in l.listed)) (texts l.words)
