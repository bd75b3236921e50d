use Rattle.fx_front.proofs.Saying.{chained}
use Rattle.fx_front.proofs.explained.add_several.Goals as goal

pub returns : goal.returns
returns c = chained _ _ _ _ _ c.add_text.ensures (chained _ _ _ _ _ (rw c.from.ensures at c.add_number.ensures)
    (chained _ _ _ _ _ c.add_text-2.ensures (rw c.from-2.ensures at c.add_number-2.ensures)))
