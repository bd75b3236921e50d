use Rattle.std.proofs.Common.{sym, ◌∙◌, refl}
use Rattle.fx_machine.specs.Work.{trail_after}
use Rattle.fx_machine.proofs.Working.{begins_paid, pays}
use Rattle.fx_machine.proofs.work.WorkBudgetWatching.begin.Goals as goal

pub returns : goal.returns
unfolding trail_after
returns c =
    let paid = begins_paid c.args._program c.args.state.now c.args.self.now.trail c.args.self.now.left in
    pays _ c.args.self.now _ (sym c.stops.ensures ∙ c.if-stops.false) _ _
    (rw (
      c.pay-4.ensures,
      c.pay-3.ensures,
      c.pay-2.ensures,
      c.pay.ensures,
      c.len.ensures,
      c.storage.ensures,
      c.len-2.ensures,
      c.controls.ensures,
      c.len-3.ensures,
    ) paid)
    (rw c.stack_len.ensures.value refl)
