use Rattle.mkstrike_c.proofs.Reasons.{numbers_are_apart}
use Rattle.mkstrike_c.proofs.laws.numbers.Goals as goal

pub returns : goal.returns
returns c = numbers_are_apart
