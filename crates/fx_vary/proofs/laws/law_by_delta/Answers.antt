use Rattle.fx_vary.proofs.Resting.{by_delta}
use Rattle.fx_vary.proofs.laws.law_by_delta.Goals as goal

pub returns : goal.returns
returns c d p e = by_delta d p e
