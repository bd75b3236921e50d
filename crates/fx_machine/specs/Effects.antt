-- What an instruction does, as far as runs see it.
use Rattle.std.specs.Prelude.{ℕ}
use Rattle.fx_machine.specs.declared.definitions.Function.{Function}
use Rattle.fx_machine.specs.declared.halt.Cause.{Cause}
use Rattle.fx_machine.specs.declared.state.State.{State}

-- at the end of the bytes there is none; else it faults, continues at an address, calls a function several times and then
-- continues, or
-- returns
pub data Effect : Type 0 where
  Ends : Effect
  Fails : (cause : Cause) → Effect
  Goes : (address : ℕ) (s : State) → Effect
  Calls : (turns : ℕ) (function : Function) (next : ℕ) (s : State) → Effect
  Returns : (s : State) → Effect
