use Rattle.std.proofs.Common.{◌≡◌, map, take}
use Rattle.fx_machine.specs.Words.{number_in}
use Rattle.fx_machine.proofs.words.read_numbers.Given as goal

abbrev pub invariant-numbers : goal.invariant-numbers
invariant-numbers l = take l.i l.numbers ≡ map number_in (take l.i l.words)
