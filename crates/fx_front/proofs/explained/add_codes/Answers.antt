use Rattle.fx_front.proofs.Saying.{chained}
use Rattle.fx_front.proofs.explained.add_codes.Goals as goal

pub returns : goal.returns
returns c = chained _ _ _ _ _ c.add_text.ensures (chained _ _ _ _ _ c.add.ensures c.add_if.ensures)
