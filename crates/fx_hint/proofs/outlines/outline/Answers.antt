use Rattle.fx_hint.proofs.Machines.{by_machine}
use Rattle.fx_hint.proofs.outlines.outline.Goals as goal

pub returns-in-Some-clause-hinted : goal.returns-in-Some-clause-hinted
returns-in-Some-clause-hinted c =
    rw c.in-Some.is (λ made. by_machine _ _ _ _ _ made c.outline_with-in-Some.ensures.value)

pub returns-in-Some-clause-kept : goal.returns-in-Some-clause-kept
returns-in-Some-clause-kept c = rw c.in-Some.is c.outline_with-in-Some.ensures.known
