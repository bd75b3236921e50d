-- What code does and returns of an instruction.
use Rattle.std.specs.Prelude.{◌≡◌, OnErr, Result, Ok, Err}
use Rattle.fx_gstate.specs.declared.state.GState.{GState}
use Rattle.fx_gstate.specs.States.{leaves}
use Rattle.fx_stackops.specs.Store.{StoreView, HasSizes as StoreHasSizes}
use Rattle.fx_machine.specs.declared.halt.Cause.{Cause}
use Rattle.fx_machine.specs.declared.action.Action.{Action}
use Rattle.fx_machine.specs.declared.state.State.{State}
use Rattle.fx_machine.specs.GraphicsRows.{Both}
use Rattle.fx_machine.specs.Shapes.{HasSizes}

-- an action, with the state that it left
abbrev pub acts : Result Action Cause → State → Result (Action × State) Cause
acts (Ok action) s = Ok (action, s)
acts (Err cause) s = Err cause

-- an instruction did what its row says; it left all sizes and, if it faulted, the points
pub record Does (row : State → Result State Cause) (s t : State) (r : Result (Unit {0}) Cause) : Type 0 where
  pub value : leaves r t ≡ row s
  pub kept : OnErr r (t.zones ≡ s.zones)
  pub sizes : HasSizes s t

-- the same of one that says where the program continues
pub record Leads (row : State → Result (Action × State) Cause) (s t : State) (r : Result Action Cause) : Type 0 where
  pub value : acts r t ≡ row s
  pub kept : OnErr r (t.zones ≡ s.zones)
  pub sizes : HasSizes s t

-- the same of one that sees no point: it works on the store and the graphics state alone
pub record DoesBoth (row : StoreView → GState → Both) (s : StoreView) (g : GState) (t : StoreView) (h : GState)
    (r : Result (Unit {0}) Cause) : Type 0 where
  pub value : leaves r (t, h) ≡ row s g
  pub sizes : StoreHasSizes s t
