use Rattle.fx_strike.proofs.OnePart.{glyph_is_one, text_is_one}
use Rattle.fx_strike.proofs.laws.text.Goals as goal

pub returns : goal.returns
returns c = record { glyph = glyph_is_one c.trimmed.ensures; text = text_is_one (glyph_is_one c.trimmed.ensures) }
