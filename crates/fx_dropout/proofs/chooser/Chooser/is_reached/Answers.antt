use Rattle.std.proofs.Common.{sym, subst, ◌+◌, ◌≤◌, arith}
use Rattle.fx_dropout.specs.inner.Closing.{stride, AreCounted}
use Rattle.fx_dropout.proofs.Gaps.{counted_more, past_first, reached_across, reached_up}
use Rattle.fx_dropout.proofs.chooser.Chooser.is_reached.Goals as goal

pub returns-else-row-eq0-clause-value : goal.returns-else-row-eq0-clause-value
returns-else-row-eq0-clause-value c =
    grind (arith, c.words_for-stride.ensures, c.is_next.ensures.value, c.if-row-eq0.false, c.if-is_up.true, reached_up)

pub returns-else-row-eq0-clause-count : goal.returns-else-row-eq0-clause-count
returns-else-row-eq0-clause-count c =
    let far : stride c.args.self.now.frame ≤ c.args.segment =
    past_first c.args.self.now.frame c.args.segment (λ e. grind (arith, e, c.words_for-stride.ensures, c.if-row-eq0.false)) in
    subst (λ up. AreCounted c.args.self.now up c.args.segment (c.args.segment + 1) c.args.tally.now.count c.is_next.new.tally.count)
    (sym c.if-is_up.true) (counted_more c.args.segment (stride c.args.self.now.frame) _ c.args.tally.now.count
    c.is_next.new.tally.count far c.is_next.ensures.count)

pub returns-else-column-eq0-clause-value : goal.returns-else-column-eq0-clause-value
returns-else-column-eq0-clause-value c =
    let next = c.is_next-else-column-eq0.ensures.value in
    grind (arith, c.words_for-stride.ensures, next, c.if-column-eq0.false, c.if-is_up.false, reached_across)
