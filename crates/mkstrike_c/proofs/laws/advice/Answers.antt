use Rattle.mkstrike_c.proofs.Reasons.{advice_is_of_refusals}
use Rattle.mkstrike_c.proofs.laws.advice.Goals as goal

pub returns : goal.returns
returns c = advice_is_of_refusals
