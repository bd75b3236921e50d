use Rattle.std.proofs.Common.{◌*◌}
use Rattle.fx_dropout.specs.inner.Closing.{AreClosed, AreCounted}
use Rattle.fx_dropout.proofs.closing.close_word.Given as goal

abbrev pub invariant-segments : goal.invariant-segments
invariant-segments l = record {
  closed : AreClosed l.chooser l.is_up l.gaps (32 * l.word) l.segment l.fn.words l.words;
  count : AreCounted l.chooser l.is_up (32 * l.word) l.segment l.fn.tally.count l.tally.count;
}
