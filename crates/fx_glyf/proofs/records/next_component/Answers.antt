use Rattle.std.proofs.Common.{arith}
use Rattle.fx_glyf.proofs.ComponentRecords.{component_taken, size_of_taken, component_found}
use Rattle.fx_glyf.proofs.records.next_component.Goals as goal

pub component-requires : goal.component-requires
component-requires c = grind (arith, component_taken)

pub returns-clause-value : goal.returns-clause-value
returns-clause-value c = grind (arith, component_found)

pub returns-clause-inside : goal.returns-clause-inside
returns-clause-inside c = grind (arith, size_of_taken)
