use Rattle.std.proofs.Common.{sym, ◌∙◌, refl}
use Rattle.fx_machine.specs.Work.{trail_after}
use Rattle.fx_machine.proofs.Working.{executed_paid, pays}
use Rattle.fx_machine.proofs.work.WorkBudgetWatching.see.Goals as goal

pub returns : goal.returns
unfolding trail_after
returns c =
    let paid = executed_paid c.args._program c.args.code.now c.args.address c.args._calls c.args.state.now c.args.self.now.trail
    c.args.self.now.left in
    pays _ c.args.self.now _ (sym c.stops.ensures ∙ c.if-stops.false) _ _
    (rw (
      c.pay-3.ensures,
      c.searched.ensures,
      c.pay_visited.ensures,
      c.pay-2.ensures,
      c.apart.ensures,
      c.pay.ensures,
      c.opcode-op.ensures,
      c.stack_len-depth.ensures.value,
    ) paid)
    (rw (c.then_some.ensures, c.searches.ensures, c.opcode-op.ensures, c.stack_len-depth.ensures.value) refl)
