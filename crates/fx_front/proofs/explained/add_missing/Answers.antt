use Rattle.fx_front.proofs.Saying.{chained}
use Rattle.fx_front.proofs.explained.add_missing.Goals as goal

pub returns : goal.returns
returns c = chained _ _ _ _ _ (rw c.from.ensures at c.add_number.ensures)
    (chained _ _ _ _ _ (rw c.are_missing.ensures at c.add_text.ensures) c.add_named.ensures)
