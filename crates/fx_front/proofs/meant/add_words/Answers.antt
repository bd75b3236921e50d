use Rattle.fx_front.proofs.Saying.{chained}
use Rattle.fx_front.proofs.meant.add_words.Goals as goal

pub returns : goal.returns
returns c = chained _ _ _ _ _ c.add_with.ensures (chained _ _ _ _ _ c.add_others.ensures c.add_text.ensures)
