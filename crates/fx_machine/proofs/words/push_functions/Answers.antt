use Rattle.std.proofs.Common.{refl, None}
use Rattle.fx_machine.specs.Words.{function_word}
use Rattle.fx_machine.proofs.PointsMore.{words_more}
use Rattle.fx_machine.proofs.words.push_functions.Goals as goal

pub functions-preserved : goal.functions-preserved
functions-preserved c =
    words_more function_word c.args.functions.now c.functions.function-index None _ _ _ _ c.functions-test.true refl
    c.functions.invariant (rw c.function_word.ensures at c.in_ok-push.ensures.items)
