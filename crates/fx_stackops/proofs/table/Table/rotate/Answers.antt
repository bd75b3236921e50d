use Rattle.fx_stackops.proofs.Stacks.{rotated_fit}
use Rattle.fx_stackops.proofs.table.Table.rotate.Goals as goal

pub invariant_of-self : goal.invariant_of-self
invariant_of-self c =
    rotated_fit _ _ _ c.args.from _ _ _ c.self.invariant (rw c.deref_mut.ensures.value c.self.invariant) c.rotate_left.ensures.after
