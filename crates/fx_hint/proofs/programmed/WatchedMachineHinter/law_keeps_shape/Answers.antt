use Rattle.fx_hint.proofs.Programs.{programs_keep}
use Rattle.fx_hint.proofs.programmed.WatchedMachineHinter.law_keeps_shape.Goals as goal

pub returns : goal.returns
returns g c = programs_keep c.args.self.now.machine.known
