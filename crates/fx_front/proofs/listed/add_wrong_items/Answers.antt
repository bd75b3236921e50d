use Rattle.fx_front.proofs.Saying.{chained}
use Rattle.fx_front.proofs.listed.add_wrong_items.Goals as goal

pub returns : goal.returns
returns g c = chained _ _ _ _ _ c.add_wrong_item.ensures (chained _ _ _ _ _ c.add_with.ensures c.add_names.ensures)
