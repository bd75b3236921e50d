use Rattle.std.proofs.Common.{arith}
use Rattle.fx_strike.proofs.Sketching.{glyph_whole}
use Rattle.fx_strike.proofs.striker.Striker.glyph_of.Goals as goal

pub returns-clause-glyph : goal.returns-clause-glyph
returns-clause-glyph g c = grind (arith, c.whole_pixels-dwidth.ensures.value, c.in_ok-bitmap.ensures, c.of.ensures, glyph_whole)
