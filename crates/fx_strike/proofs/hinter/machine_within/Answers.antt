use Rattle.fx_strike.specs.Strike.{machine_within}
use Rattle.fx_strike.proofs.hinter.machine_within.Goals as goal

pub returns-else-careful : goal.returns-else-careful
unfolding machine_within
returns-else-careful c = rw c.if-careful.false c.machine_at.ensures
