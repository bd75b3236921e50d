use Rattle.std.proofs.Common.{ap, sym, ◌∙◌, rules, Some}
use Rattle.fx_strike.proofs.BlockSettings.{on_is}
use Rattle.fx_strike.proofs.block.hinter_in.Goals as goal

pub returns-in_default-clause-taken : goal.returns-in_default-clause-taken
returns-in_default-clause-taken c = λ machine careful e b. rw c.in_default.is at
    (on_is c.args.opened.now.font c.args.opened.now.ppem c.args.hinting careful c.args.block.now machine c.in_ok-machine.field-0
    (search rules) e b (λ k f p w. c.in_ok-machine.ensures.known k (f ∙ sym c.shared.ensures) p w))

pub returns-clause-taken : goal.returns-clause-taken
returns-clause-taken c = λ machine careful e b. ap Some c.in_ok-hinter.ensures
    ∙ (rw c.in-Some.is at
    (on_is c.args.opened.now.font c.args.opened.now.ppem c.args.hinting careful c.args.block.now machine c.in_ok-machine.field-0
    (search rules) e b (λ k f p w. c.in_ok-machine.ensures.known k (f ∙ sym c.shared.ensures) p w)))
