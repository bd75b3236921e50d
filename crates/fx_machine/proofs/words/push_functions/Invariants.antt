use Rattle.std.proofs.Common.{◌≡◌, ◌++◌, map, take}
use Rattle.fx_machine.specs.Words.{function_word}
use Rattle.fx_machine.proofs.words.push_functions.Given as goal

abbrev pub invariant-functions : goal.invariant-functions
invariant-functions l = l.words.items ≡ l.initial.words.items ++ map function_word (take l.function-index l.functions)
