use Rattle.fx_strike.proofs.OnePart.{part_is_one}
use Rattle.fx_strike.proofs.laws.part.Goals as goal

pub returns : goal.returns
returns c = part_is_one
