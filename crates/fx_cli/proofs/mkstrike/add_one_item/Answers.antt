use Rattle.fx_front.proofs.Saying.{chained}
use Rattle.fx_cli.proofs.mkstrike.add_one_item.Goals as goal

pub returns : goal.returns
returns c = chained _ _ _ _ _ c.add_text.ensures (chained _ _ _ _ _ c.add_text-2.ensures
    (chained _ _ _ _ _ (rw c.what_is_wrong.ensures at c.add_text-3.ensures) c.add_meant.ensures))
