-- Where a skip continues, as a function beside the relation of Chain: the search from address to address.
use Rattle.std.specs.Prelude.{ℕ, zero, suc, ◌+◌, Bool, nat_le, ◌==◌, if◌then◌else◌, List, length, Option, Some, None, Result, Ok}
use Rattle.std.specs.Prelude.{Err}
use Rattle.fx_code.specs.declared.fault.CodeFault.{CodeFault}
use Rattle.fx_code.specs.declared.fault.CodeFault.TheVariants.{CodeEnd, NestedDefinition}
use Rattle.fx_code.specs.Opcodes.{ENDF}
use Rattle.fx_code.specs.Chain.{opcode_at, next_address, level_after, stops_at_definition, LeadsPast, LeadsPastDefinition}

-- the first instruction from an address on that ends the search, among a given number at most
abbrev pub first_from : (ℕ → ℕ → Bool) → List ℕ → ℕ → ℕ → ℕ → Option ℕ
first_from stops code zero address level = None
first_from stops code (suc most) address level =
    if nat_le (next_address code address) (length code)
    then (
    if stops (opcode_at code address) level
    then Some address
    else first_from stops code most (next_address code address) (level_after (opcode_at code address) level)
    )
    else None

-- there are no more than bytes
unfoldable pub first_of : (ℕ → ℕ → Bool) → List ℕ → ℕ → Option ℕ
first_of stops code from = first_from stops code (length code) from 0

-- the address after it, or that there is none
abbrev pub after : Option ℕ → Result ℕ CodeFault
after (Some address) = Ok (address + 1)
after None = Err CodeEnd

-- the same past a definition, which another definition may not begin in
abbrev pub after_definition : List ℕ → Option ℕ → Result ℕ CodeFault
after_definition code (Some address) = if opcode_at code address == ENDF then Ok (address + 1) else Err NestedDefinition
after_definition code None = Err CodeEnd

-- where a skip continues
abbrev pub past_of : (ℕ → ℕ → Bool) → List ℕ → ℕ → Result ℕ CodeFault
past_of stops code from = after (first_of stops code from)

-- the same past a definition
abbrev pub past_definition_of : List ℕ → ℕ → Result ℕ CodeFault
past_definition_of code from = after_definition code (first_of stops_at_definition code from)

-- ---- laws

-- past_of is the result of a skip
abbrev pub PastOfIsPast : Type 0
PastOfIsPast = (stops : ℕ → ℕ → Bool) (code : List ℕ) (from : ℕ) → LeadsPast stops code from (past_of stops code from)

-- and past_definition_of that of one past a definition
abbrev pub PastDefinitionOfIsPast : Type 0
PastDefinitionOfIsPast = (code : List ℕ) (from : ℕ) → LeadsPastDefinition code from (past_definition_of code from)
