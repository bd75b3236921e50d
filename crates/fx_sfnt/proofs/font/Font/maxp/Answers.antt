use Rattle.fx_sfnt.proofs.Opening.{opened, font_glyphs}
use Rattle.fx_sfnt.proofs.font.Font.maxp.Goals as goal

pub returns-clause-glyphs : goal.returns-clause-glyphs
returns-clause-glyphs c = font_glyphs (opened c.self.invariant.0)
