use Rattle.std.proofs.Common.{◌≡◌, ◌*◌, take, Ok}
use Rattle.fx_bdf.specs.Text.{longest_glyph}
use Rattle.fx_strike.specs.inner.Writing.{AddsPart, AreLinesOf}
use Rattle.fx_strike.proofs.striker.Striker.write_made.Given as goal

-- the setting is as it was, and the lines of the characters so far were added
abbrev pub invariant-mapped : goal.invariant-mapped
invariant-mapped g l = record {
  kept : l.self ≡ l.fn.self;
  lines : AddsPart (AreLinesOf l.fn.self l.refused (take l.m-index l.mapped)) (l.m-index * longest_glyph) l.fn.text l.text (Ok tt);
}
