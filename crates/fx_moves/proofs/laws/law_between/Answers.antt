use Rattle.fx_moves.proofs.Between.{inferred_between_both}
use Rattle.fx_moves.proofs.laws.law_between.Goals as goal

pub returns : goal.returns
returns c x before after h = inferred_between_both x before after h
