use Rattle.std.proofs.Common.{sym}
use Rattle.fx_front.proofs.Saying.{chained}
use Rattle.fx_front.proofs.explained.add_halt.Goals as goal

pub returns : goal.returns
returns c = rw (sym c.draws_unhinted.ensures, sym c.is.ensures)
    (chained _ _ _ _ _ c.add_if.ensures (chained _ _ _ _ _ c.add_if-2.ensures c.add_with.ensures))
