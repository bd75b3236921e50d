use Rattle.fx_front.proofs.Saying.{chained}
use Rattle.fx_front.proofs.mistaken.add_other.Goals as goal

pub returns : goal.returns
returns c = chained _ _ _ _ _ c.add_renamed.ensures (chained _ _ _ _ _
    (rw c.about_ppem.ensures at c.add_text.ensures) (chained _ _ _ _ _ c.add_font.ensures c.add_text-2.ensures))
