use Rattle.std.proofs.Common.{◌≡◌, ◌≤◌, map, take, vec_len, vec_capacity}
use Rattle.fx_machine.specs.Words.{function_in}
use Rattle.fx_machine.proofs.words.functions_of.Given as goal

abbrev pub invariant-words : goal.invariant-words
invariant-words l = record {
  done : l.functions.items ≡ map function_in (take l.word-index l.words);
  many : vec_len l.functions ≡ l.word-index;
  room : l.room ≤ vec_capacity l.functions;
}
