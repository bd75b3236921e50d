-- What a command line asks for.
use Rattle.std.specs.Prelude.{◌≡◌, ◌↔◌, false, List, drop, codes, Option, Some, None, Result, Ok, Err, IsOk, if◌then◌else◌}
use Rattle.clap.specs.Walk.{Text}
use Rattle.fx_fixed.specs.Chain.{map_fault}
use Rattle.fx_request.specs.declared.refusal.Refusal.TheVariants.{BadChars}
use Rattle.fx_arguments.specs.declared.fault.Fault.{Fault}
use Rattle.fx_arguments.specs.declared.fault.Fault.TheVariants.{Usage, Early}
use Rattle.fx_arguments.specs.declared.verb.Verb.{Verb}
use Rattle.fx_arguments.specs.Arguments.{is_command, verb_of}
use Rattle.fx_arguments.specs.Commands.{CommandView, explanation}
use Rattle.fx_arguments.specs.Mistakes.{asked_by, checked, line_of}
use Rattle.fx_arguments.specs.Wrong.{WrongView, malformed, wrong}

-- `explain`: what is wrong first with the arguments after it
abbrev pub command_of_explain : List Text → CommandView
command_of_explain arguments = record { task = explanation (line_of (checked arguments)); face = 0; hex = false }

-- what is wrong, as a fault of a run
abbrev pub fault_of : WrongView → Fault
fault_of (wrong text) = Usage
fault_of malformed = Early BadChars

-- the words of a command line after the program's name
abbrev pub command_by : Option Verb → List Text → Result CommandView Fault
command_by (Some verb) words = map_fault fault_of (asked_by verb words)
command_by None words = if is_command (codes "explain") words then Ok (command_of_explain (drop 1 words)) else Err Usage

-- what the arguments of a command line ask for, the program's name first; or their first fault
abbrev pub command_of : List Text → Result CommandView Fault
command_of arguments = command_by (verb_of (drop 1 arguments)) (drop 1 arguments)

-- the law: something is wrong exactly if they are a usage fault
abbrev pub MistakesAreUsage : Type 0
MistakesAreUsage = (arguments : List Text) → IsOk (checked (drop 1 arguments)) ↔ (command_of arguments ≡ Err Usage → ⊥)
