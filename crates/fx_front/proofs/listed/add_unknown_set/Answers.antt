use Rattle.fx_front.proofs.Saying.{chained}
use Rattle.fx_front.proofs.listed.add_unknown_set.Goals as goal

pub returns : goal.returns
returns c = chained _ _ _ _ _ c.add_with.ensures (chained _ _ _ _ _ c.add_set_question.ensures c.add_text.ensures)
