use Rattle.fx_front.proofs.Saying.{chained}
use Rattle.fx_cli.proofs.mkstrike.add_right.Goals as goal

pub returns : goal.returns
returns c = chained _ _ _ _ _ c.add_text.ensures (chained _ _ _ _ _ c.add_text-2.ensures
    (chained _ _ _ _ _ (rw c.hyphen_of.ensures at c.add_text-3.ensures)
    (chained _ _ _ _ _ c.add_text-4.ensures c.add_text-5.ensures)))
