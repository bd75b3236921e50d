use Rattle.fx_trace.proofs.Texts.{says_nothing}
use Rattle.fx_trace.proofs.line.add_purpose.Goals as goal

pub returns-in-None : goal.returns-in-None
returns-in-None g c = rw c.in-None.is says_nothing
