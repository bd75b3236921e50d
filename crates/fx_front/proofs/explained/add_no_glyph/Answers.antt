use Rattle.fx_front.proofs.Saying.{chained}
use Rattle.fx_front.proofs.explained.add_no_glyph.Goals as goal

pub returns : goal.returns
returns c = chained _ _ _ _ _ (rw c.why_no_glyph.ensures at c.add_with.ensures) c.add_first.ensures
