use Rattle.std.proofs.Common.{◌≡◌, ◌++◌, ◌-◌, length, take, replicate, Some, None, ◌∙◌, ap, arith, set}
use Rattle.std.proofs.lemmas.Grind.{common_steps}
use Rattle.fx_machine.proofs.Tables.{filled_defined}
use Rattle.fx_machine.proofs.definitions.FunctionTable.define.Goals as goal

pub returns-then-number-self : goal.returns-then-number-self
returns-then-number-self c =
    let items = c.self.inside.functions.items in
    let grown = c.resize-reached.new.self.items in
    let most = c.max-reached.result in
    let g : grown ≡ take most items ++ replicate (most - length items) None = grind (arith, common_steps) in
    let long : length grown ≡ most = grind (arith, common_steps) in
    filled_defined items grown c.self.inside.count c.args.number most (Some c.args.function) c.self.invariant.0
    c.if-number-self.true (grind (arith, common_steps)) g long
    ∙ ap (λ l. set l c.args.number (Some c.args.function)) c.self.view_is
