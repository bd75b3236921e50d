use Rattle.fx_trace.specs.Changes.{cell_change}
use Rattle.fx_trace.proofs.Pairs.{SaysBefore}
use Rattle.fx_trace.proofs.changes.add_cells.Given as goal

-- the changes of the entries before i were added
abbrev pub invariant-cells : goal.invariant-cells
invariant-cells g l = SaysBefore (cell_change l.name) l.fn.text l.text l.was l.now l.i
