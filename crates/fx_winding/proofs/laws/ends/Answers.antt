use Rattle.fx_winding.proofs.EndsOn.{ends_are_covered}
use Rattle.fx_winding.proofs.laws.ends.Goals as goal

pub returns : goal.returns
returns c = ends_are_covered
