use Rattle.mkstrike_c.proofs.Requested.{no_text}
use Rattle.mkstrike_c.proofs.making.name_of.Goals as goal

pub returns-in-Err : goal.returns-in-Err
returns-in-Err c = no_text c.args.name.now c.in-Err.ensures.cases.0
