use Rattle.fx_sfnt.proofs.Opening.{opened, font_pairs}
use Rattle.fx_sfnt.proofs.font.Font.metrics.Goals as goal

pub advance_width-requires-clause-some : goal.advance_width-requires-clause-some
advance_width-requires-clause-some c = (opened c.self.invariant.0).pairs

pub advance_width-requires-clause-inside : goal.advance_width-requires-clause-inside
advance_width-requires-clause-inside c = font_pairs (opened c.self.invariant.0) c.self.invariant.1
