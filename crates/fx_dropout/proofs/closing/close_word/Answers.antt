use Rattle.std.proofs.Common.{◌+◌, ◌*◌, ◌≤◌, arith}
use Rattle.fx_dropout.proofs.Gaps.{closed_outside, closed_then, counted_to}
use Rattle.fx_dropout.proofs.closing.close_word.Goals as goal

pub segments-init : goal.segments-init
segments-init c =
    let ch = c.args.chooser.now in
    let word = 32 * c.args.word in
    let old = c.args.tally.now.count in
    record {
      closed = closed_outside ch c.args.is_up c.args.gaps.now c.args.word word _ c.args.words.now (omega arith)
          (omega (arith, c.first_in.ensures.within)) (λ i h l. c.first_in.ensures.before i (omega (arith, l)));
      count = counted_to ch c.args.is_up word word _ old old (omega arith) (omega arith);
    }

pub segments-preserved : goal.segments-preserved
segments-preserved c =
    let ch = c.args.chooser.now in
    let now = c.segments.invariant in
    let own = c.close_gap.ensures in
    record {
      closed = closed_then ch c.args.is_up c.args.gaps.now (32 * c.args.word) c.segments.segment (c.segments.segment + 1)
          c.args.words.now c.segments.words c.close_gap.new.words (omega arith) (omega arith) now.closed own.closed;
      count = omega (arith, now.count, own.count);
    }

pub returns-clause-closed : goal.returns-clause-closed
returns-clause-closed c =
    let order : c.first_in.result ≤ c.last_in.result =
    grind (arith, c.first_in.ensures, c.last_in.ensures.after c.first_in.result) in
    closed_then c.args.chooser.now c.args.is_up c.args.gaps.now (32 * c.args.word) c.segments.segment (32 * (c.args.word + 1))
    c.args.words.now c.segments.words c.segments.words (omega arith)
    (omega (arith, order, c.segments.auto.segment-end, c.last_in.ensures.within)) c.segments.invariant.closed
    (closed_outside c.args.chooser.now c.args.is_up c.args.gaps.now c.args.word c.segments.segment _ c.segments.words (omega arith)
    (omega arith) (λ i h l. c.last_in.ensures.after i (omega (arith, c.segments-test.false, h)) (omega (arith, l))))

pub returns-clause-count : goal.returns-clause-count
returns-clause-count c =
    let order : c.first_in.result ≤ c.last_in.result =
    grind (arith, c.first_in.ensures, c.last_in.ensures.after c.first_in.result) in
    counted_to c.args.chooser.now c.args.is_up (32 * c.args.word) c.segments.segment (32 * (c.args.word + 1))
    c.args.tally.now.count c.segments.tally.count
    (omega (arith, order, c.segments.auto.segment-end, c.last_in.ensures.within)) c.segments.invariant.count
