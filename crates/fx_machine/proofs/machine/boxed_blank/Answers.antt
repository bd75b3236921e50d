use Rattle.std.proofs.Common.{◌∙◌}
use Rattle.fx_machine.proofs.machine.boxed_blank.Goals as goal

pub returns : goal.returns
returns c = c.in_ok-new.ensures.ok ∙ c.in_ok-state.ensures
