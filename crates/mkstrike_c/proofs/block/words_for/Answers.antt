use Rattle.mkstrike_c.proofs.Origins.{begins_for, origin_for, words_are, words_there}
use Rattle.mkstrike_c.specs.Modes.{mode_of}
use Rattle.mkstrike_c.proofs.block.words_for.Goals as goal

pub returns-in_default-clause-taken : goal.returns-in_default-clause-taken
returns-in_default-clause-taken c = λ b. let a = c.args.by.now.at in
    absurd (words_there a.font.now a.face a.ppem (mode_of a.mode) c.args.by.now.block.now b
    (rw c.mode_of-hinting.ensures at c.in_default.ensures))

pub returns-clause-words : goal.returns-clause-words
returns-clause-words c = let a = c.args.by.now.at in
    words_are a.font.now a.face a.ppem (mode_of a.mode).hinting c.args.by.now.block.now c.in-Some.words.now
    (rw c.mode_of-hinting.ensures at c.in-Some.ensures)

pub returns-clause-own : goal.returns-clause-own
returns-clause-own c = λ t. let a = c.args.by.now.at in
    origin_for a.font.now a.face a.ppem (mode_of a.mode).hinting c.args.by.now.block.now c.in-Some.words.now
    (rw c.mode_of-hinting.ensures at c.in-Some.ensures)

pub returns-clause-begins : goal.returns-clause-begins
returns-clause-begins c = let a = c.args.by.now.at in
    begins_for a.font.now a.face a.ppem (mode_of a.mode).hinting c.args.by.now.block.now c.in-Some.words.now
    (rw c.mode_of-hinting.ensures at c.in-Some.ensures)
