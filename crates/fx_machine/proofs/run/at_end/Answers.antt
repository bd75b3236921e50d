use Rattle.std.proofs.Common.{arith}
use Rattle.fx_machine.proofs.Looping.{finished_here, limit_from, stray_here, cut_here}
use Rattle.fx_machine.proofs.run.at_end.Goals as goal
use Rattle.fx_machine.proofs.run.at_end.Goals.{else-ended-via-then-ended+else-is_empty, else-ended-via-else-ended}

pub returns-then-is_empty-clause-value : goal.returns-then-is_empty-clause-value
returns-then-is_empty-clause-value c = λ s. finished_here _ _ _ _ _ c.args.calls.now.open_calls.items _ _ s (cc) (grind arith)

pub returns-then-left-eq0-clause-value : goal.returns-then-left-eq0-clause-value
returns-then-left-eq0-clause-value c = λ s. rw c.halted.ensures
    (limit_from _ _ _ _ _ c.args.calls.now.open_calls.items _ _ s c.if-left-eq0.true
    (elim c.else-ended.branch [
      | else-ended-via-then-ended+else-is_empty w ↦ (λ e z. grind arith)
      | else-ended-via-else-ended w ↦ (λ e z. w.if-ended.false (cc))
    ]))

pub returns-then-ended-2-clause-value : goal.returns-then-ended-2-clause-value
returns-then-ended-2-clause-value c = λ s. rw c.halted-then-ended-2.ensures
    (stray_here _ _ _ _ _ c.args.calls.now.open_calls.items _ _ s (omega arith) (cc)
    (elim c.else-ended.branch [
      | else-ended-via-then-ended+else-is_empty w ↦ grind arith
      | else-ended-via-else-ended w ↦ absurd (w.if-ended.false c.if-ended-2.true)
    ]))

pub returns-clause-value : goal.returns-clause-value
returns-clause-value c = λ s. rw c.halted-2.ensures
    (cut_here _ _ _ _ _ c.args.calls.now.open_calls.items _ _ s (omega arith) (λ e. c.if-ended-2.false (cc))
    (c.requires.past (omega arith)))
