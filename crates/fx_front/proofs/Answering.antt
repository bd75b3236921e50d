-- Before a run nothing is written: `quiet`.
-- Serves `answer_or_run`.
use Rattle.std.proofs.Common.{◌+◌, ◌≤◌, Option, Some, None, Ok, Err, inl, inr, arith}
use Rattle.fx_fixed.specs.Changes.{Change}
use Rattle.fx_words.specs.Parts.{Text}
use Rattle.fx_words.specs.Sets.{value_of}
use Rattle.fx_front.specs.Answered.{Answered, ExplainsBy, HelpsBy, helps, meaning_of}
use Rattle.fx_front.specs.Asked.{AskedView, help, refusal, run, version}
use Rattle.fx_front.specs.Lines.{IsSilent, SaysLine}

helped : {E : Type 0} (text : Option Text) (command : Text) (out : Change) (told : E → E → Change) (was now : E)
    → HelpsBy text command out told was now None → IsSilent (told was now)
helped (Some text) command out told was now h = absurd (let no = h.1 in cc)
helped None command out told was now h = absurd (let no = h.0 in cc)

explained : (text : Option Text) (word : Text) (out err : Change) → ExplainsBy text word out err None → IsSilent err
explained (Some text) word out err h = absurd (let no = h.1 in cc)
explained None word out err h = absurd (let no = h.0 in cc)

pub quiet : {E : Type 0} (asked : AskedView) (out : Change) (told : E → E → Change) (was now : E)
    → Answered asked out told was now None → IsSilent (told was now)
quiet version out told was now h = absurd (let no = h.1 in cc)
quiet (help None) out told was now h = absurd (let no = h.1 in cc)
quiet (help (Some command)) out told was now h = helped (value_of helps command) command out told was now h
quiet (refusal word) out told was now h = explained (meaning_of word) word out (told was now) h
quiet run out told was now h = h.2

-- a line counts one fault at most
pub one_fault : (err : Change) → SaysLine err → err.faults ≤ err.faults_before + 1
one_fault err (inl h) = omega (arith, h.1)
one_fault err (inr (text, line, (Ok u, wrote))) = grind arith
one_fault err (inr (text, line, (Err e, wrote))) = grind arith
