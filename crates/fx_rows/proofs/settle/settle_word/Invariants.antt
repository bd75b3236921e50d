use Rattle.fx_rows.proofs.Changes.{IsSettling, Emptying}
use Rattle.fx_rows.proofs.settle.settle_word.Given as goal

abbrev pub invariant-columns : goal.invariant-columns
invariant-columns l = record {
  settling : IsSettling l.fn.diff l.from l.fn.count l.sum l.bits l.left;
  emptying : Emptying l.fn.diff l.diff l.from l.left;
}

abbrev pub decreases-columns : goal.decreases-columns
decreases-columns l = l.left
