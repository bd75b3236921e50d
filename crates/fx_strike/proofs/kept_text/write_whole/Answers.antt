use Rattle.fx_fixed.proofs.Texts.{adds_ended}
use Rattle.fx_strike.proofs.kept_text.write_whole.Goals as goal

pub returns-clause-lines : goal.returns-clause-lines
returns-clause-lines g c = adds_ended c.in_ok-write_glyph.ensures.text c.end.ensures.adds
