use Rattle.fx_front.proofs.Stripped.{stripped_end}
use Rattle.fx_front.proofs.mistaken.before_end.Goals as goal

pub returns : goal.returns
returns c = stripped_end _ _ _ c.strip_suffix.ensures.cases
