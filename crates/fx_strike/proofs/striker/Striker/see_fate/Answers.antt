use Rattle.fx_strike.proofs.Telling.{hears_none}
use Rattle.fx_strike.proofs.striker.Striker.see_fate.Goals as goal

pub returns-in-Drawn-clause-heard : goal.returns-in-Drawn-clause-heard
returns-in-Drawn-clause-heard g c = rw c.in-Drawn.is (hears_none g.L.Listener.Hears _ c.see_drawn.result)
