use Rattle.mkstrike_c.proofs.Reasons.{reasons_are_names}
use Rattle.mkstrike_c.proofs.laws.reasons.Goals as goal

pub returns : goal.returns
returns c = reasons_are_names
