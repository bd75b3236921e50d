use Rattle.fx_hint.specs.Limits.{max_depth}
use Rattle.fx_hint.proofs.Forgetting.{plain_root}
use Rattle.fx_hint.proofs.laws.runs_are_the_walks.Goals as goal

pub returns : goal.returns
returns c h font s root which g count = plain_root h font s root max_depth which g count
