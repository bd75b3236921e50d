use Rattle.std.proofs.Common.{◌∙◌, sym, subst, ◌*◌, length, arith}
use Rattle.fx_dropout.specs.Tests.{choice_tests}
use Rattle.fx_dropout.specs.inner.Closing.{distance, AreClosed, AreLinesClosed, AreOpen}
use Rattle.fx_dropout.proofs.Closed.{lent}
use Rattle.fx_dropout.proofs.Gaps.{all_counted, closed_none, lines_closed}
use Rattle.fx_dropout.proofs.closing.close_lines.Goals as goal

pub returns-then-is_any-clause-closed : goal.returns-then-is_any-clause-closed
returns-then-is_any-clause-closed c =
    let ch = c.args.chooser.now in
    let up = c.args.is_up in
    let gaps = c.leave_open.new.noted in
    let new = c.close_all.new.words in
    let all = 32 * length gaps in
    let closed = subst (λ xs. AreClosed ch up gaps 0 all xs new) c.deref_mut.ensures.value c.close_all.ensures.closed in
    subst (AreLinesClosed ch up c.args.noted.now c.args.words.now.items)
    (sym (lent c.args.words.now.items new c.args.words.now.len closed.long c.args.words.now.ok.0))
    (lines_closed ch up c.args.noted.now gaps c.args.words.now.items new
    (subst (λ xs. AreOpen (distance up ch.frame) c.args.noted.now xs gaps) c.deref.ensures.value c.leave_open.ensures) closed)

pub returns-then-is_any-clause-count : goal.returns-then-is_any-clause-count
returns-then-is_any-clause-count c =
    all_counted c.args.chooser.now.frame c.args.is_up (length c.leave_open.new.noted)
    (choice_tests c.args.chooser.now.closing (length c.args.chooser.now.pieces.now)) c.args.tally.now.count _
    (c.leave_open.ensures.long ∙ c.requires.noted_long) c.close_all.ensures.count

pub returns-else-is_any-clause-closed : goal.returns-else-is_any-clause-closed
returns-else-is_any-clause-closed c =
    let ch = c.args.chooser.now in
    let up = c.args.is_up in
    let gaps = c.leave_open.new.noted in
    lines_closed ch up c.args.noted.now gaps c.args.words.now.items c.args.words.now.items
    (subst (λ xs. AreOpen (distance up ch.frame) c.args.noted.now xs gaps) c.deref.ensures.value c.leave_open.ensures)
    (closed_none ch up gaps 0 _ c.args.words.now.items (λ m h l e.
    let z = c.is_any.ensures c.if-is_any.false m in omega (arith, e, z)))
