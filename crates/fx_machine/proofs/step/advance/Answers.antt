use Rattle.fx_machine.proofs.Keeping.{code_keeps}
use Rattle.fx_machine.proofs.step.advance.Goals as goal

pub returns-clause-shapes : goal.returns-clause-shapes
returns-clause-shapes c = code_keeps _ _ _ _ _ _ c.execute.ensures.value c.execute.ensures.kept
