use Rattle.std.proofs.Common.{arith, length, refl, sym, ◌∙◌}
use Rattle.fx_strike.specs.Strike.{opened_many_of, setting_for}
use Rattle.mkstrike_c.specs.declared.gathered.Wanted.{Wanted}
use Rattle.mkstrike_c.specs.FontAt.{file_at}
use Rattle.mkstrike_c.specs.Modes.{is_mode, mode_of}
use Rattle.mkstrike_c.specs.Prepared.{AreWordsOf}
use Rattle.mkstrike_c.specs.Refused.{IsReason}
use Rattle.mkstrike_c.specs.inner.Gathering.{IsGathered}
use Rattle.mkstrike_c.proofs.Gathering.{all_drawn}
use Rattle.mkstrike_c.proofs.Preparing.{found_due, glyphs_named, own_found}
use Rattle.mkstrike_c.proofs.prepared.proved_mkstrike_glyphs_prepared.Goals as goal

pub returns-clause-own : goal.returns-clause-own
returns-clause-own c done =
    let a = c.args.by.now.at in
    own_found a.font.now a.face a.ppem (mode_of a.mode).hinting c.args.by.now.block.now c.in-Some.words.now
    c.in-Some-gathered_by.found c.tell_all.result (c.in-Some.ensures.own refl) c.in-Some.ensures.words
    c.in-Some-gathered_by.ensures.own c.tell_all.ensures.least (omega (arith, done))

pub returns-clause-drawn : goal.returns-clause-drawn
returns-clause-drawn c b done =
    let a = c.args.by.now.at in
    let file = file_at a in
    let how = mode_of a.mode in
    let wanted : Wanted =
    record { packed = c.is_packed.result; entries = length c.args.glyphs.now; pixels = length c.args.pixels.now } in
    let setting = setting_for file a.ppem c.args.chars.now how in
    let words : AreWordsOf file a.ppem how c.in-Some.words.now =
    c.in-Some.ensures.words a.font.now a.face a.ppem how b in
    rw c.is_packed.ensures at (all_drawn wanted setting c.args.chars.now
    c.in-Some-gathered_by.found c.args.glyphs.now c.tell_all.new.glyphs c.args.pixels.now c.tell_all.new.pixels c.tell_all.new.drawn
    c.args.refused.now c.tell_all.new.refused c.tell_all.result refl refl c.tell_all.auto.glyphs c.tell_all.auto.pixels
    (found_due (IsGathered wanted setting c.args.chars.now) (IsReason (opened_many_of file a.ppem c.args.chars.now) setting)
    c.in-Some-gathered_by.found (c.in-Some-gathered_by.ensures.due words))
    c.tell_all.ensures.found c.tell_all.ensures.least done)

pub returns-clause-named : goal.returns-clause-named
returns-clause-named c = λ big.
    glyphs_named (is_mode c.args.by.now.at.mode) c.args.glyphs.now c.tell_all.new.glyphs c.args.pixels.now
    c.tell_all.new.pixels c.tell_all.new.drawn c.args.refused.now c.tell_all.new.refused c.in-Some-gathered_by.found
    c.tell_all.result (sym c.is_mode.ensures ∙ c.if-not-is_mode.false) c.tell_all.ensures.found c.tell_all.ensures.refused big
