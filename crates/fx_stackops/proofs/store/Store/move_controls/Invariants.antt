use Rattle.std.proofs.Common.{◌≡◌, ◌≤◌, ◌*◌, length}
use Rattle.fx_stackops.specs.Store.{HasSizes}
use Rattle.fx_stackops.specs.inner.Pairs.{control_pairs}
use Rattle.fx_stackops.proofs.store.Store.move_controls.Given as goal

-- the pairs that are left give the result
abbrev pub invariant-pairs : goal.invariant-pairs
invariant-pairs l = record {
  rest : control_pairs l.form l.fn.g l.ppem l.left l.self ≡ control_pairs l.form l.fn.g l.ppem l.pairs l.fn.self;
  enough : 2 * l.left ≤ length l.self.stack;
  sizes : HasSizes l.fn.self l.self;
}

abbrev pub decreases-pairs : goal.decreases-pairs
decreases-pairs l = l.left
