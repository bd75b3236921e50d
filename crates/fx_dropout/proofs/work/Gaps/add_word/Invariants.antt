use Rattle.std.proofs.Common.{◌≡◌, ◌+◌, ◌*◌, ◌≤◌}
use Rattle.fx_dropout.specs.Work.{sum_below}
use Rattle.fx_dropout.specs.inner.Segments.{price_of}
use Rattle.fx_dropout.proofs.work.Gaps.add_word.Given as goal

abbrev pub invariant-segments : goal.invariant-segments
invariant-segments l = record {
  added : l.sum ≡ l.fn.work + sum_below l.k (λ k. price_of l.self (32 * l.word + k));
  few : l.sum ≤ l.most;
}
