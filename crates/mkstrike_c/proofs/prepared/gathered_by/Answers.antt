use Rattle.std.proofs.Common.{ap, Err}
use Rattle.mkstrike_c.specs.FontAt.{file_at}
use Rattle.mkstrike_c.specs.Modes.{mode_of}
use Rattle.mkstrike_c.proofs.Preparing.{gathered_fails, gathered_found, own_striker_for, taken_for}
use Rattle.mkstrike_c.proofs.prepared.gathered_by.Goals as goal

pub returns-in-Ok-Some-clause-due : goal.returns-in-Ok-Some-clause-due
returns-in-Ok-Some-clause-due c =
    gathered_found (file_at c.args.at.now) c.args.at.now.ppem c.args.chars.now (mode_of c.args.at.now.mode) c.args.wanted
    c.args.words.now c.in-Ok-Some.field-0 c.in-Ok-Some.striker c.gathered_with.result c.in-Ok-Some.field-0-is
    c.in-Ok-Some.ensures.chars (rw (c.mode_of-how.ensures, c.file.ensures) at c.in-Ok-Some.ensures.setting)
    c.gathered_with.ensures.gathered c.gathered_with.ensures.memory

pub returns-in-Ok-Some-clause-own : goal.returns-in-Ok-Some-clause-own
returns-in-Ok-Some-clause-own c = rw (c.mode_of-how.ensures, c.file.ensures) at
    (own_striker_for c.file.result c.args.at.now.ppem c.args.chars.now c.mode_of-how.result c.args.words.now
    c.in-Ok-Some.field-0 c.in-Ok-Some.striker c.gathered_with.result c.in-Ok-Some.field-0-is c.in-Ok-Some.ensures.chars
    c.in-Ok-Some.ensures.opened c.in-Ok-Some.ensures.own)

pub returns-in-Ok-None-clause-due : goal.returns-in-Ok-None-clause-due
returns-in-Ok-None-clause-due c = rw (c.mode_of-how.ensures, c.file.ensures) at
    (taken_for c.file.result c.args.at.now.ppem c.args.chars.now c.mode_of-how.result c.args.words.now
    c.in-Ok-None.field-0 c.in-Ok-None.field-0-is c.in-Ok-None.ensures.chars c.in-Ok-None.ensures.setting)

pub returns-in-Err-clause-due : goal.returns-in-Err-clause-due
returns-in-Err-clause-due c = λ w. (
  gathered_fails (file_at c.args.at.now) c.args.at.now.ppem c.args.chars.now (mode_of c.args.at.now.mode) c.in-Err.refusal
      (rw c.file.ensures at c.in-Err.ensures.cause),
  λ m. rw c.file.ensures at (c.in-Err.ensures.late (ap Err m)),
)
