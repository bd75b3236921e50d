use Rattle.std.proofs.Common.{◌*◌}
use Rattle.fx_dropout.specs.inner.Closing.{AreClosed, AreCounted}
use Rattle.fx_dropout.proofs.closing.close_all.Given as goal

abbrev pub invariant-words : goal.invariant-words
invariant-words l = record {
  closed : AreClosed l.chooser l.is_up l.gaps 0 (32 * l.word) l.fn.words l.words;
  count : AreCounted l.chooser l.is_up 0 (32 * l.word) l.fn.tally.count l.tally.count;
}
