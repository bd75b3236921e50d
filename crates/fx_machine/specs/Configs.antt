-- What the machine's code is seen as.
use Rattle.std.specs.Prelude.{ℕ, List, reverse, Result, Ok, Err}
use Rattle.fx_code.specs.Chain.{opcode_at}
use Rattle.fx_machine.specs.declared.program.Program.{Program}
use Rattle.fx_machine.specs.declared.halt.Cause.{Cause}
use Rattle.fx_machine.specs.declared.halt.Cause.TheVariants.{StepLimit}
use Rattle.fx_machine.specs.declared.calls.OpenCall.{OpenCall}
use Rattle.fx_machine.specs.declared.state.State.{State}
use Rattle.fx_machine.specs.declared.calls.Cursor.{Cursor}
use Rattle.fx_machine.specs.declared.calls.Calls.{Calls}
use Rattle.fx_machine.specs.declared.halt.Halt.{Halt}
use Rattle.fx_machine.specs.Programs.{named}
use Rattle.fx_machine.specs.Runs.{Verdict, Finished, Halted, Exhausted}
use Rattle.fx_machine.specs.Machine.{Config, config}

-- the open calls, the innermost first
abbrev pub calls_of : Calls → List OpenCall
calls_of calls = reverse calls.open_calls.items

abbrev pub config_of : Cursor → Calls → State → Config
config_of cursor calls s = config (calls_of calls) cursor.program cursor.address s

-- a halt at an address of a program; that of a glyph by the glyph's number
abbrev pub halt_at : (Program → List ℕ) → ℕ → Program → Program → ℕ → Cause → Halt
halt_at texts g during w p cause =
    record { cause = cause; during = named g during; program = named g w; address = p; opcode = opcode_at (texts w) p }

-- what a verdict says of a program that was started: the instructions and the state, or a halt
abbrev pub answered : (Program → List ℕ) → ℕ → Program → Verdict → Result (ℕ × State) Halt
answered texts g during (Finished steps s) = Ok (steps, s)
answered texts g during (Halted cause w p) = Err (halt_at texts g during w p cause)
answered texts g during (Exhausted w p) = Err (halt_at texts g during w p StepLimit)

-- what code returns, with the state that it left
abbrev pub sees : Result ℕ Halt → State → Result (ℕ × State) Halt
sees (Ok steps) s = Ok (steps, s)
sees (Err halt) s = Err halt
