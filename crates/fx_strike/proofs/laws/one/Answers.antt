use Rattle.fx_strike.proofs.OneCharacter.{one_is_of_strike}
use Rattle.fx_strike.proofs.laws.one.Goals as goal

pub returns : goal.returns
returns c = one_is_of_strike
