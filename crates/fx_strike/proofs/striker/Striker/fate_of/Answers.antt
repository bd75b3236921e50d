use Rattle.fx_strike.specs.Strike.{glyph_fate_of}
use Rattle.fx_strike.proofs.striker.Striker.fate_of.Goals as goal

pub returns-in-Ok-clause-fate : goal.returns-in-Ok-clause-fate
unfolding glyph_fate_of
returns-in-Ok-clause-fate g c = rw (c.in-Ok.ensures).sketch
