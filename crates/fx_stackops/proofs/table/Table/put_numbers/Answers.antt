use Rattle.fx_stackops.proofs.Stacks.{written_fit}
use Rattle.fx_stackops.proofs.table.Table.put_numbers.Goals as goal

pub invariant_of-self : goal.invariant_of-self
invariant_of-self c =
    written_fit _ _ _ c.args.from _ _ _ c.self.invariant (rw c.deref_mut.ensures.value c.self.invariant) c.put_each.ensures.fit
