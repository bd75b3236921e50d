use Rattle.fx_winding.proofs.Reversal.{reversal_negates, reversal_keeps_cover}
use Rattle.fx_winding.proofs.laws.reversal.Goals as goal

pub returns-clause-pieces : goal.returns-clause-pieces
returns-clause-pieces c = reversal_negates

pub returns-clause-cover : goal.returns-clause-cover
returns-clause-cover c = reversal_keeps_cover
