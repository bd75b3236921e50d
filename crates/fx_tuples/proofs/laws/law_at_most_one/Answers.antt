use Rattle.fx_tuples.proofs.Resting.{at_most_one}
use Rattle.fx_tuples.proofs.laws.law_at_most_one.Goals as goal

pub returns : goal.returns
returns c tents place n = at_most_one tents place n
