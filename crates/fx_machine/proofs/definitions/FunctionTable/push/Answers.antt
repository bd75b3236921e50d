use Rattle.std.proofs.Common.{◌++◌, ◌+◌, ◌-◌, map, ap, ◌∙◌, arith}
use Rattle.std.proofs.lemmas.Grind.{common_steps}
use Rattle.fx_machine.specs.Words.{function_word}
use Rattle.fx_machine.proofs.Tables.{filled_added}
use Rattle.fx_machine.proofs.definitions.FunctionTable.push.Goals as goal

pub returns : goal.returns
returns c =
    let items = c.self.inside.functions.items in
    let after = c.push_functions.new.words.items in
    let long = c.push_functions.new.words.len in
    filled_added c.self.inside.count (c.len.result + (c.self.inside.count - c.len-2.result)) long items c.args.words.now.items after
    c.resize.new.self.items (c.in_ok-push_functions.ensures
    ∙ ap (λ l. c.args.words.now.items ++ map function_word l) c.deref.ensures.value)
    (grind (arith, common_steps)) (grind (arith, common_steps)) (c.in_ok-resize.ensures.items)
    ∙ ap (λ l. c.args.words.now.items ++ map function_word l) c.self.view_is
