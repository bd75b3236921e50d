use Rattle.fx_front.proofs.Saying.{chained}
use Rattle.fx_front.proofs.mistaken.add_unknown_command.Goals as goal

pub returns : goal.returns
returns c = chained _ _ _ _ _ c.add_with.ensures (chained _ _ _ _ _ c.add_command_meant.ensures c.add_text.ensures)
