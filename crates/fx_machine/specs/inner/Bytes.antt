-- Bytes that PUSHB pushes, for the code that has a path of its own for them.
use Rattle.std.specs.Prelude.{ℕ, List, Result}
use Rattle.fx_code.specs.Opcodes.{PUSHB_1}
use Rattle.fx_code.specs.Numbers.{numbers}
use Rattle.fx_stackops.specs.Rows.{push_row}
use Rattle.fx_machine.specs.declared.halt.Cause.{Cause}
use Rattle.fx_machine.specs.declared.action.Action.{Action}
use Rattle.fx_machine.specs.declared.state.State.{State}
use Rattle.fx_machine.specs.GraphicsRows.{on_store}
use Rattle.fx_machine.specs.Table.{then_at}

-- bytes are pushed, and the program continues at an address
abbrev pub bytes_then : ℕ → List ℕ → State → Result (Action × State) Cause
bytes_then next bytes s = then_at next (on_store (push_row (numbers PUSHB_1 bytes)) s)
