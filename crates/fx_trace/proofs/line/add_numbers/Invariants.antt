use Rattle.std.proofs.Common.{take}
use Rattle.std.specs.List.{flat_map}
use Rattle.fx_trace.specs.Lines.{number_text}
use Rattle.fx_trace.specs.inner.Telling.{Says}
use Rattle.fx_trace.proofs.line.add_numbers.Given as goal

-- the numbers so far were added
abbrev pub invariant-numbers : goal.invariant-numbers
invariant-numbers g l = Says l.fn.text l.text (flat_map number_text (take l.number-index l.numbers))
