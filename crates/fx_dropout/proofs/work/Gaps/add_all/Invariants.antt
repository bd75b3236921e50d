use Rattle.std.proofs.Common.{◌≡◌, ◌+◌, ◌*◌, ◌≤◌}
use Rattle.fx_dropout.specs.Work.{sum_below}
use Rattle.fx_dropout.specs.inner.Segments.{price_of}
use Rattle.fx_dropout.proofs.work.Gaps.add_all.Given as goal

abbrev pub invariant-words : goal.invariant-words
invariant-words l = record {
  added : l.sum ≡ l.fn.work + sum_below (32 * l.word) (price_of l.self);
  few : l.sum ≤ l.most;
}
