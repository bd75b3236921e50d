use Rattle.fx_strike.proofs.Existing.{strike_exists}
use Rattle.fx_strike.proofs.laws.exists.Goals as goal

pub returns : goal.returns
returns c = strike_exists
