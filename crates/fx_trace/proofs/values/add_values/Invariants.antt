use Rattle.std.proofs.Common.{take}
use Rattle.std.specs.List.{flat_map}
use Rattle.fx_trace.specs.Changes.{value_text}
use Rattle.fx_trace.specs.inner.Telling.{Says}
use Rattle.fx_trace.proofs.values.add_values.Given as goal

-- the values so far were added
abbrev pub invariant-values : goal.invariant-values
invariant-values g l = Says l.fn.text l.text (flat_map value_text (take l.value-index l.values))
