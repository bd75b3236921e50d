use Rattle.fx_front.proofs.Saying.{chained}
use Rattle.fx_front.proofs.explained.add_code.Goals as goal

pub returns : goal.returns
returns c = chained _ _ _ _ _ c.add_text.ensures
    (rw (c.text.ensures.value, c.hexadecimal.ensures, c.from.ensures) at c.add.ensures)
