use Rattle.std.proofs.Common.{◌≡◌, ◌++◌, map, take}
use Rattle.fx_machine.specs.Words.{number_word, AreNumbers}
use Rattle.fx_machine.proofs.words.push_numbers.Given as goal

abbrev pub invariant-numbers : goal.invariant-numbers
invariant-numbers l = record {
  done : l.words.items ≡ l.initial.words.items ++ map number_word (take l.number-index l.numbers);
  numbered : AreNumbers (take l.number-index l.numbers);
}
