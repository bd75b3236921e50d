use Rattle.std.proofs.Common.{length, refl}
use Rattle.fx_strike.specs.Strike.{setting_for}
use Rattle.mkstrike_c.specs.declared.gathered.Wanted.{Wanted}
use Rattle.mkstrike_c.specs.FontAt.{file_at}
use Rattle.mkstrike_c.specs.Modes.{is_packed, mode_of}
use Rattle.mkstrike_c.proofs.Gathering.{all_drawn}
use Rattle.mkstrike_c.proofs.glyphs.proved_mkstrike_glyphs.Goals as goal

pub returns-clause-drawn : goal.returns-clause-drawn
returns-clause-drawn c done =
    let a = c.args.at.now in
    let wanted : Wanted =
    record { packed = is_packed a.mode; entries = length c.args.glyphs.now; pixels = length c.args.pixels.now } in
    all_drawn wanted (setting_for (file_at a) a.ppem c.args.chars.now (mode_of a.mode)) c.args.chars.now
    c.gathered_of-found.result c.args.glyphs.now c.tell_all.new.glyphs c.args.pixels.now c.tell_all.new.pixels c.tell_all.new.drawn
    c.args.refused.now c.tell_all.new.refused c.tell_all.result refl refl c.tell_all.auto.glyphs c.tell_all.auto.pixels
    (rw (c.mode_of-how.ensures, c.is_packed.ensures, c.file.ensures) at c.gathered_of-found.ensures.gathered)
    c.tell_all.ensures.found c.tell_all.ensures.least done
