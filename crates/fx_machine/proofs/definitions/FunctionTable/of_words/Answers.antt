use Rattle.fx_machine.proofs.Tables.{filled_in}
use Rattle.fx_machine.proofs.definitions.FunctionTable.of_words.Goals as goal

pub returns : goal.returns
returns c = filled_in c.used_of-used.result c.args.words.now c.in_ok-functions.functions.items c.used_of-used.ensures.inside
    c.in_ok-functions.ensures.items c.used_of-used.ensures.rest
