use Rattle.fx_hint.proofs.Places.{one_more, still_full}
use Rattle.fx_hint.proofs.below.Below.push.Goals as goal

pub invariant_of-self-2 : goal.invariant_of-self-2
invariant_of-self-2 c = still_full _ _ _ c.self.invariant c.in_ok-push.ensures.ok

pub returns : goal.returns
returns c = rw c.self.view_is at (one_more _ _ _ c.in_ok-push.ensures.ok)
