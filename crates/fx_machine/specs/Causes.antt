-- Why programs halt: numbers and names, and the faults of the crates below as causes.
use Rattle.std.specs.Prelude.{ℕ, List, codes}
use Rattle.fx_code.specs.declared.fault.CodeFault.{CodeFault}
use Rattle.fx_code.specs.declared.fault.CodeFault.TheVariants as code
use Rattle.fx_gstate.specs.declared.fault.BadArgument.{BadArgument as BadArgumentOf}
use Rattle.fx_stackops.specs.declared.fault.StackFault.{StackFault}
use Rattle.fx_stackops.specs.declared.fault.StackFault.TheVariants as stack
use Rattle.fx_machine.specs.declared.halt.Cause.{Cause}
use Rattle.fx_machine.specs.declared.halt.Cause.TheVariants.{StackUnder, StackOver, CodeEnd, DivideByZero, BadArgument}
use Rattle.fx_machine.specs.declared.halt.Cause.TheVariants.{NestedDefinition, BadOpcode, BadJump, NoFunction, CallDepth, StepLimit}
use Rattle.fx_machine.specs.declared.halt.Cause.TheVariants.{StrayEnd}

-- a cause's number and name
abbrev pub entry_of : Cause → ℕ × List ℕ
entry_of StackUnder = (30, codes "StackUnder")
entry_of StackOver = (31, codes "StackOver")
entry_of BadOpcode = (32, codes "BadOpcode")
entry_of CodeEnd = (33, codes "CodeEnd")
entry_of BadJump = (34, codes "BadJump")
entry_of NoFunction = (35, codes "NoFunction")
entry_of CallDepth = (36, codes "CallDepth")
entry_of StepLimit = (37, codes "StepLimit")
entry_of DivideByZero = (38, codes "DivideByZero")
entry_of BadArgument = (39, codes "BadArgument")
entry_of NestedDefinition = (40, codes "NestedDefinition")
entry_of StrayEnd = (41, codes "StrayEnd")

abbrev pub number_of : Cause → ℕ
number_of cause = (entry_of cause).0

abbrev pub name_of : Cause → List ℕ
name_of cause = (entry_of cause).1

-- a fault of the stack
abbrev pub of_stack : StackFault → Cause
of_stack stack.StackUnder = StackUnder
of_stack stack.StackOver = StackOver
of_stack stack.DivideByZero = DivideByZero
of_stack stack.BadArgument = BadArgument

-- a refused argument
abbrev pub of_state : BadArgumentOf → Cause
of_state _ = BadArgument

-- a fault of the code
abbrev pub of_code : CodeFault → Cause
of_code code.CodeEnd = CodeEnd
of_code code.NestedDefinition = NestedDefinition
