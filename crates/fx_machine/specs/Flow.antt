-- The rows that may continue elsewhere. `next` is the address after the instruction.
-- Each comment has the opcode, the mnemonic, its name in the manual and what becomes of the stack, whose top is written last.
-- Apple TrueType Reference Manual, "Managing the flow of control"; FDEF, IDEF, CALL, LOOPCALL.
use Rattle.std.specs.Prelude.{ℕ, zero, suc, ℤ, pos, negsuc, ◌+ℤ◌, nat_le, nat_lt, if◌then◌else◌, List, length, slice_index_or}
use Rattle.std.specs.Prelude.{slice_set, Option, Some, None, Result, Ok, Err}
use Rattle.std.specs.Ordering.{int_eq}
use Rattle.fx_fixed.specs.Chain.{◌>>=◌, map_fault}
use Rattle.fx_code.specs.declared.fault.CodeFault.{CodeFault}
use Rattle.fx_code.specs.Chain.{stops_at_false, stops_at_else}
use Rattle.fx_code.specs.Past.{past_of, past_definition_of}
use Rattle.fx_stackops.specs.Store.{one, two}
use Rattle.fx_machine.specs.declared.program.Program.{Program}
use Rattle.fx_machine.specs.declared.definitions.Function.{Function}
use Rattle.fx_machine.specs.declared.halt.Cause.{Cause}
use Rattle.fx_machine.specs.declared.halt.Cause.TheVariants.{BadOpcode, BadJump, NoFunction, BadArgument}
use Rattle.fx_machine.specs.declared.action.Action.{Action}
use Rattle.fx_machine.specs.declared.action.Action.TheVariants.{Went, Called, Returned}
use Rattle.fx_machine.specs.declared.state.State.{State}
use Rattle.fx_machine.specs.Causes.{of_stack, of_code}
use Rattle.fx_machine.specs.Definitions.{function_at}

-- the address where a search leads
abbrev pub led : Result ℕ CodeFault → State → Result (Action × State) Cause
led r s = do
  address ← map_fault of_code r
  Ok (Went address, s)

-- 58 IF, IF test: e ->; continues if e is not 0, else after the first ELSE or EIF of its level
unfoldable pub if_row : List ℕ → ℕ → State → Result (Action × State) Cause
if_row code next s = do
  x ← map_fault of_stack (one s.store)
  if int_eq x.0 (pos 0) then led (past_of stops_at_false code next) (record s { store = x.1 }) else
      Ok (Went next, record s { store = x.1 })

-- 1B ELSE: ->; continues after the EIF of its level
abbrev pub else_row : List ℕ → ℕ → State → Result (Action × State) Cause
else_row code next s = led (past_of stops_at_else code next) s

-- 59 EIF, End IF: ->; continues
abbrev pub eif_row : ℕ → State → Result (Action × State) Cause
eif_row next s = Ok (Went next, s)

-- a jump, which must stay in the program
unfoldable pub jumped : ℕ → ℤ → State → Result (Action × State) Cause
jumped size (pos address) s = if nat_le address size then Ok (Went address, s) else Err BadJump
jumped size (negsuc _) s = Err BadJump

-- 1C JMPR, JuMP Relative: o ->; o bytes on from its own address
unfoldable pub jmpr_row : ℕ → ℕ → State → Result (Action × State) Cause
jmpr_row size address s = do
  x ← map_fault of_stack (one s.store)
  jumped size (pos address +ℤ x.0) (record s { store = x.1 })

-- 78 JROT, Jump Relative On True: o e ->; jumps if e is not 0
unfoldable pub jrot_row : ℕ → ℕ → ℕ → State → Result (Action × State) Cause
jrot_row size address next s = do
  x ← map_fault of_stack (two s.store)
  if int_eq x.1 (pos 0) then Ok (Went next, record s { store = x.2 }) else jumped size (pos address +ℤ x.0)
      (record s { store = x.2 })

-- 79 JROF, Jump Relative On False: o e ->; jumps if e is 0
unfoldable pub jrof_row : ℕ → ℕ → ℕ → State → Result (Action × State) Cause
jrof_row size address next s = do
  x ← map_fault of_stack (two s.store)
  if int_eq x.1 (pos 0) then jumped size (pos address +ℤ x.0) (record s { store = x.2 }) else
      Ok (Went next, record s { store = x.2 })

-- a call of a function, which must be defined
unfoldable pub called : ℕ → Option Function → Cause → ℕ → State → Result (Action × State) Cause
called turns (Some f) fault next s = Ok (Called turns f next, s)
called turns None fault next s = Err fault

-- 2B CALL, CALL function: f ->
unfoldable pub call_row : ℕ → State → Result (Action × State) Cause
call_row next s = do
  x ← map_fault of_stack (one s.store)
  called 1 (function_at s.definitions.functions x.0) NoFunction next (record s { store = x.1 })

-- 2A LOOPCALL, LOOP and CALL function: n f ->; n below 1 does nothing, and does not look at f
unfoldable pub times : ℤ → Option Function → ℕ → State → Result (Action × State) Cause
times (pos (suc n)) f next s = called (suc n) f NoFunction next s
times (pos zero) f next s = Ok (Went next, s)
times (negsuc n) f next s = Ok (Went next, s)

unfoldable pub loopcall_row : ℕ → State → Result (Action × State) Cause
loopcall_row next s = do
  x ← map_fault of_stack (two s.store)
  times x.0 (function_at s.definitions.functions x.1) next (record s { store = x.2 })

-- a number below a count
abbrev pub number_below : ℕ → ℤ → Result ℕ Cause
number_below count (pos n) = if nat_lt n count then Ok n else Err BadArgument
number_below count (negsuc _) = Err BadArgument

-- 2C FDEF, Function DEFinition: f ->; continues after its ENDF
unfoldable pub fdef_row : List ℕ → Program → ℕ → State → Result (Action × State) Cause
fdef_row code w next s = do
  x ← map_fault of_stack (one s.store)
  n ← number_below (length s.definitions.functions) x.0
  led (past_definition_of code next) (record s {
    store = x.1;
    definitions =
        record s.definitions { functions = slice_set s.definitions.functions n (Some (record { program = w; address = next })) };
  })

-- 2D ENDF, END Function definition: ->
abbrev pub endf_row : State → Result (Action × State) Cause
endf_row s = Ok (Returned, s)

-- 89 IDEF, Instruction DEFinition: o ->; continues after its ENDF
unfoldable pub idef_row : List ℕ → Program → ℕ → State → Result (Action × State) Cause
idef_row code w next s = do
  x ← map_fault of_stack (one s.store)
  n ← number_below 256 x.0
  led (past_definition_of code next) (record s {
    store = x.1;
    definitions =
        record s.definitions { opcodes = slice_set s.definitions.opcodes n (Some (record { program = w; address = next })) };
  })

-- 28, 7B, 83, 84, 8F to AF: an opcode without a row runs its definition
unfoldable pub undefined_row : ℕ → ℕ → State → Result (Action × State) Cause
undefined_row op next s = called 1 (slice_index_or s.definitions.opcodes op None) BadOpcode next s
