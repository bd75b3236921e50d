use Rattle.std.proofs.Common.{◌+◌, ◌*◌, arith}
use Rattle.fx_dropout.proofs.Gaps.{closed_then}
use Rattle.fx_dropout.proofs.closing.close_all.Goals as goal

pub words-preserved : goal.words-preserved
words-preserved c =
    let now = c.words.invariant in
    let own = c.close_word.ensures in
    record {
      closed = closed_then c.args.chooser.now c.args.is_up c.args.gaps.now 0 (32 * c.words.word) (32 * (c.words.word + 1))
          c.args.words.now c.words.words c.close_word.new.words (omega arith) (omega arith) now.closed own.closed;
      count = omega (arith, now.count, own.count);
    }
