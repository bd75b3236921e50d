use Rattle.fx_front.proofs.Saying.{told}
use Rattle.fx_front.proofs.lines.say.Goals as goal

pub returns-clause-told : goal.returns-clause-told
returns-clause-told g c = told _ _ _ c.of-text.ensures c.tell.ensures.told
