-- The lines of a trace (own).
use Rattle.std.specs.Prelude.{ℕ, ℤ, ◌-◌, List, [], ◌∷◌, ◌++◌, codes, drop, reverse, length, Option, Some, None}
use Rattle.std.specs.List.{flat_map}
use Rattle.std.specs.Fmt.{decimal}
use Rattle.fx_code.specs.Listing.{instruction_text}
use Rattle.fx_machine.specs.declared.program.FontProgram.{FontProgram}
use Rattle.fx_machine.specs.declared.program.FontProgram.TheVariants.{Fpgm, Prep, Glyph}
use Rattle.fx_machine.specs.declared.state.State.{State}
use Rattle.fx_hint.specs.declared.component.ComponentOf.{ComponentOf}
use Rattle.fx_trace.specs.declared.values.TraceValue.TheVariants.{Number}
use Rattle.fx_trace.specs.Changes.{joined, value_text}
use Rattle.fx_trace.specs.Snapshots.{SnapshotView, snapshot_of, changes_text}

-- how many numbers of the stack a line shows at most, from the top
abbrev pub shown : ℕ
shown = 8

-- the last numbers of a list
abbrev pub last_of : List ℤ → List ℤ
last_of numbers = drop (length numbers - shown) numbers

-- a number after a space
abbrev pub number_text : ℤ → List ℕ
number_text number = value_text (Number number)

-- the top of a stack, the top last
abbrev pub stack_text : List ℤ → List ℕ
stack_text stack = flat_map number_text (last_of (reverse stack))

-- a program's name
abbrev pub program_text : FontProgram → List ℕ
program_text Fpgm = codes "fpgm"
program_text Prep = codes "prep"
program_text (Glyph g) = codes "glyph " ++ decimal g

-- a component of a glyph
unfoldable pub component_text : ComponentOf → List ℕ
component_text c = joined (codes ", component " ∷ decimal c.number ∷ codes " of glyph " ∷ decimal c.composite ∷ [])

-- for which component a program runs, if for one
abbrev pub purpose_text : Option ComponentOf → List ℕ
purpose_text None = []
purpose_text (Some c) = component_text c

-- the line of a program that begins
unfoldable pub begin_text : Option ComponentOf → FontProgram → List ℕ
begin_text component program = program_text program ++ (codes " begins" ++ (purpose_text component ++ codes "\n"))

-- the line of an instruction at an address of a program with these bytes: the program, the instruction as in the program's listing,
-- the top of the stack after it, and what differs in the state after it from the one before
unfoldable pub line_text : FontProgram → List ℕ → ℕ → SnapshotView → State → List ℕ
line_text program code address was s =
    program_text program ++ (codes " " ++ (instruction_text code address
    ++ (codes " |" ++ (stack_text s.store.stack ++ (changes_text was (snapshot_of s) ++ codes "\n")))))
