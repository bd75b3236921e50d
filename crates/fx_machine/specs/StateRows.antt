-- The rows that set vectors by points, and the row that sets the flags. All continue at the next address.
-- Each comment has the opcode, the mnemonic, its name in the manual and what becomes of the stack, whose top is written last.
-- Apple TrueType Reference Manual, "Instruction set"; "Graphics state".
use Rattle.std.specs.Prelude.{ℤ, pos, Bool, not, if◌then◌else◌, Result, Ok}
use Rattle.std.specs.Ordering.{int_eq}
use Rattle.fx_fixed.specs.Chain.{◌>>=◌, map_fault}
use Rattle.fx_gstate.specs.declared.state.GState.{GState}
use Rattle.fx_gstate.specs.Vectors.{line_of}
use Rattle.fx_stackops.specs.Store.{StoreView, two}
use Rattle.fx_pointops.specs.declared.measure.LineBetween.{LineBetween}
use Rattle.fx_pointops.specs.declared.zones.Zones.{Zones}
use Rattle.fx_pointops.specs.Measure.{line_between}
use Rattle.fx_machine.specs.declared.halt.Cause.{Cause}
use Rattle.fx_machine.specs.declared.state.State.{State}
use Rattle.fx_machine.specs.declared.state.InstructControl.{InstructControl}
use Rattle.fx_machine.specs.Causes.{of_stack}

-- ---- vectors

-- 06-07 SPVTL[a], Set Projection Vector To Line: p1 p2 ->; 08-09 SFVTL[a], Set Freedom Vector To Line: p1 p2 ->
-- 86-87 SDPVTL[a], Set Dual Projection Vector To Line: p1 p2 ->, which also sets the projection vector
-- The line goes from p2, of zp2, to p1, of zp1. With 1 (a: turned) the vector goes across it, a quarter turn counter-clockwise.
abbrev pub with_line : (LineBetween → GState → GState) → LineBetween × Zones → StoreView → State → State
with_line set l t s = record s { store = t; zones = l.1; graphics = set l.0 s.graphics }

abbrev pub by_line : (LineBetween → GState → GState) → State → Result State Cause
by_line set s = do
  x ← map_fault of_stack (two s.store)
  Ok (with_line set (line_between s.graphics x.0 x.1 s.zones) x.2 s)

unfoldable pub spvtl_row : Bool → State → Result State Cause
spvtl_row turned = by_line (λ l g. record g { projection = line_of l.cur turned; dual = line_of l.cur turned })

unfoldable pub sfvtl_row : Bool → State → Result State Cause
sfvtl_row turned = by_line (λ l g. record g { freedom = line_of l.cur turned })

unfoldable pub sdpvtl_row : Bool → State → Result State Cause
sdpvtl_row turned = by_line (λ l g. record g { projection = line_of l.cur turned; dual = line_of l.org turned })

-- ---- what prep asks for

-- 8E INSTCTRL, INSTRuction execution ConTRoL: v s ->
-- While prep runs, selector 1 sets (v is not 0) or clears that no glyph programs run, selector 2 that they start from the default
-- graphics state; all else does nothing.
abbrev pub chosen : ℤ → ℤ → InstructControl → InstructControl
chosen v selector flags =
    if int_eq selector (pos 1) then record flags { no_programs = not (int_eq v (pos 0)) }
    else if int_eq selector (pos 2) then record flags { default_state = not (int_eq v (pos 0)) }
    else flags

unfoldable pub instctrl_row : State → Result State Cause
instctrl_row s = do
  x ← map_fault of_stack (two s.store)
  Ok (record s { store = x.2; flags = if s.preparing then chosen x.0 x.1 s.flags else s.flags })
