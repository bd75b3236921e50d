use Rattle.std.proofs.Common.{sym}
use Rattle.fx_hint.proofs.Places.{one_less, none_left}
use Rattle.fx_hint.proofs.below.Below.pop.Goals as goal
use Rattle.fx_hint.proofs.below.Below.pop.Goals.{in-Some, in-None}

pub returns : goal.returns
returns c = elim c.match-pop.branch [
  | in-Some w ↦ rw (sym c.self.view_is, w.result-is) (one_less _ _ _ c.self.invariant (rw w.in-Some.is at c.pop.ensures.items))
  | in-None w ↦ rw (sym c.self.view_is, w.result-is) (none_left _ c.pop.result w.in-None.is c.pop.ensures.variant.1)
]
