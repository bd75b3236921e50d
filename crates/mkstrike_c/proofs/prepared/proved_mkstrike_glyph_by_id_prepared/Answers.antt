use Rattle.std.proofs.Common.{arith, refl, sym, ◌∙◌}
use Rattle.mkstrike_c.specs.Modes.{is_mode, mode_of}
use Rattle.mkstrike_c.proofs.Preparing.{glyph_named, own_found}
use Rattle.mkstrike_c.proofs.prepared.proved_mkstrike_glyph_by_id_prepared.Goals as goal

pub returns-clause-own : goal.returns-clause-own
returns-clause-own c done =
    let a = c.args.by.now.at in
    own_found a.font.now a.face a.ppem (mode_of a.mode).hinting c.args.by.now.block.now c.in-Some.words.now
    c.in-Some-numbered_by.found c.tell.result (c.in-Some.ensures.own refl) c.in-Some.ensures.words
    c.in-Some-numbered_by.ensures.own c.tell.ensures.least (omega (arith, done))

pub returns-clause-named : goal.returns-clause-named
returns-clause-named c = λ big.
    glyph_named (is_mode c.args.by.now.at.mode) c.is_packed.result c.args.pixels.now c.tell.new.pixels c.args.info.now
    c.tell.new.info c.in-Some-numbered_by.found c.tell.result c.tell.new.refused (sym c.is_mode.ensures ∙ c.if-not-is_mode.false)
    c.tell.ensures.found c.tell.ensures.refused big
