use Rattle.fx_tuples.proofs.Resting.{tuple_rests}
use Rattle.fx_tuples.proofs.laws.law_rests.Goals as goal

pub returns : goal.returns
returns c s numbers d h r k z i e f g = tuple_rests s numbers d h r k z i e f g
