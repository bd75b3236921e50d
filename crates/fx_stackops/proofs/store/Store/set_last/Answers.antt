-- The number on top was replaced.
use Rattle.std.proofs.Common.{rules, ◌≡◌, ◌-◌, slice_set}
use Rattle.fx_stackops.proofs.Stacks.{replaced_seen}
use Rattle.fx_stackops.proofs.store.Store.set_last.Goals as goal

pub returns : goal.returns
returns c =
    let w : c.put.new.self ≡ slice_set c.self.inside.cells (c.self.inside.depth - 1) c.args.x = search rules in
    replaced_seen _ _ _ _ _ _ _ _ w c.self.view_is c.requires c.self.invariant.0
