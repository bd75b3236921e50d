use Rattle.mkstrike_c.specs.FontAt.{file_at}
use Rattle.mkstrike_c.specs.Modes.{mode_of}
use Rattle.mkstrike_c.proofs.Preparing.{numbered_found, own_striker, taken_at}
use Rattle.mkstrike_c.proofs.prepared.numbered_by.Goals as goal

pub returns-in-Ok-Some-clause-due : goal.returns-in-Ok-Some-clause-due
returns-in-Ok-Some-clause-due c =
    numbered_found (file_at c.args.at.now) c.args.at.now.ppem c.args.glyph (mode_of c.args.at.now.mode) c.args.words.now
    c.in-Ok-Some.field-0 c.in-Ok-Some.striker c.numbered.result c.in-Ok-Some.field-0-is
    (rw (c.mode_of.ensures, c.file.ensures) at c.in-Ok-Some.ensures.setting) c.numbered.ensures.found
    c.numbered.ensures.refused

pub returns-in-Ok-Some-clause-own : goal.returns-in-Ok-Some-clause-own
returns-in-Ok-Some-clause-own c = rw (c.mode_of.ensures, c.file.ensures) at
    (own_striker c.file.result c.args.at.now.ppem c.mode_of.result c.args.words.now c.in-Ok-Some.field-0
    c.in-Ok-Some.striker c.numbered.result c.in-Ok-Some.field-0-is c.in-Ok-Some.ensures.opened
    c.in-Ok-Some.ensures.own)

pub returns-in-Ok-None-clause-due : goal.returns-in-Ok-None-clause-due
returns-in-Ok-None-clause-due c = rw (c.mode_of.ensures, c.file.ensures) at
    (taken_at c.file.result c.args.at.now.ppem c.mode_of.result c.args.words.now c.in-Ok-None.field-0
    c.in-Ok-None.field-0-is c.in-Ok-None.ensures.setting)
