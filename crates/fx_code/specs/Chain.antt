-- Instructions, the chain of a program's addresses, and the matches of its structured jumps (Apple TrueType Reference Manual,
-- "Instructing Fonts": the instruction stream; NPUSHB to PUSHW, IF, ELSE, EIF, FDEF, IDEF, ENDF).
use Rattle.std.specs.Prelude.{◌≡◌, ◌≢◌, ◌⊎◌, ℕ, ◌+◌, ◌-◌, ◌*◌, ◌≤◌, Bool, ◌&&◌, ◌||◌, ◌==◌, nat_le, if◌then◌else◌, IsTrue, List}
use Rattle.std.specs.Prelude.{length, slice_index, slice_range, Result, MatchResult}
use Rattle.fx_code.specs.declared.fault.CodeFault.{CodeFault}
use Rattle.fx_code.specs.declared.fault.CodeFault.TheVariants.{CodeEnd, NestedDefinition}
use Rattle.fx_code.specs.Opcodes.{NPUSHB, NPUSHW, PUSHB_1, PUSHB_8, PUSHW_1, PUSHW_8, ELSE, FDEF, ENDF, IF, EIF, IDEF}

-- the opcode at an address, 0 past the end
abbrev pub opcode_at : List ℕ → ℕ → ℕ
opcode_at code address = slice_index code address

-- how many bytes come before the data: the opcode, and a count after NPUSHB and NPUSHW
abbrev pub head_len : ℕ → ℕ
head_len op = if op == NPUSHB || op == NPUSHW then 2 else 1

-- how many bytes of data an opcode has, if this count follows it
abbrev pub data_len : ℕ → ℕ → ℕ
data_len op count =
    if op == NPUSHB then count
    else if op == NPUSHW then 2 * count
    else if nat_le PUSHB_1 op && nat_le op PUSHB_8 then op - PUSHB_1 + 1
    else if nat_le PUSHW_1 op && nat_le op PUSHW_8 then 2 * (op - PUSHW_1 + 1)
    else 0

-- data may follow an opcode
abbrev pub has_data : ℕ → Bool
has_data op = op == NPUSHB || op == NPUSHW || nat_le PUSHB_1 op && nat_le op PUSHW_8

-- how many bytes the instruction at an address takes
unfoldable pub size_at : List ℕ → ℕ → ℕ
size_at code address = head_len (opcode_at code address) + data_len (opcode_at code address) (slice_index code (address + 1))

-- the address after it
abbrev pub next_address : List ℕ → ℕ → ℕ
next_address code address = address + size_at code address

-- the data of the instruction at an address
abbrev pub data_at : List ℕ → ℕ → List ℕ
data_at code address = slice_range code (address + head_len (opcode_at code address)) (next_address code address)

-- an instruction is at the address with all its data
unfoldable pub IsWhole : List ℕ → ℕ → Type 0
IsWhole code address = next_address code address ≤ length code

-- how many IFs are open after an instruction
unfoldable pub level_after : ℕ → ℕ → ℕ
level_after op level = if op == IF then level + 1 else if op == EIF then level - 1 else level

-- The chain from an address, each address with the number of IFs that are open there:
-- the least set that holds the address and with each whole instruction's address the next one.
pub data Chain (code : List ℕ) (from : ℕ) : ℕ → ℕ → Type 0 where
  first : Chain code from from 0
  next : {address level : ℕ} → Chain code from address level → IsWhole code address
      → Chain code from (next_address code address) (level_after (opcode_at code address) level)

-- a false IF continues after an ELSE or EIF of its own level
unfoldable pub stops_at_false : ℕ → ℕ → Bool
stops_at_false op level = (op == ELSE || op == EIF) && level == 0

-- an ELSE that is executed continues after the EIF of its level
unfoldable pub stops_at_else : ℕ → ℕ → Bool
stops_at_else op level = op == EIF && level == 0

-- a definition continues after its end; no other may begin before that
unfoldable pub stops_at_definition : ℕ → ℕ → Bool
stops_at_definition op level = op == ENDF || op == FDEF || op == IDEF

-- an instruction that ends the search is at the address
abbrev pub Meets : (ℕ → ℕ → Bool) → List ℕ → ℕ → ℕ → Type 0
Meets stops code address level = IsWhole code address × IsTrue (stops (opcode_at code address) level)

-- the least member of the chain that ends the search
pub record IsFirst (stops : ℕ → ℕ → Bool) (code : List ℕ) (from address : ℕ) : Type 0 where
  pub level : ℕ
  pub member : Chain code from address level
  pub meets : Meets stops code address level
  pub least : (other l : ℕ) → Chain code from other l → Meets stops code other l → address ≤ other

-- no member of the chain ends it
abbrev pub HasNone : (ℕ → ℕ → Bool) → List ℕ → ℕ → Type 0
HasNone stops code from = (address l : ℕ) → Chain code from address l → Meets stops code address l → ⊥

-- the result of a skip: the address after the match, or that there is none
abbrev pub LeadsPast : (ℕ → ℕ → Bool) → List ℕ → ℕ → Result ℕ CodeFault → Type 0
LeadsPast stops code from r =
    MatchResult r
    (λ after. (address : ℕ) × IsFirst stops code from address × (after ≡ address + 1))
    (λ e. (e ≡ CodeEnd) × HasNone stops code from)

-- the same past a definition, which another definition may not begin in
abbrev pub LeadsPastDefinition : List ℕ → ℕ → Result ℕ CodeFault → Type 0
LeadsPastDefinition code from r =
    MatchResult r
    (λ after.
    (address : ℕ) × IsFirst stops_at_definition code from address × (opcode_at code address ≡ ENDF) × (after ≡ address + 1))
    (λ e.
    ((e ≡ CodeEnd) × HasNone stops_at_definition code from)
    ⊎ ((e ≡ NestedDefinition)
    × ((address : ℕ) × IsFirst stops_at_definition code from address × (opcode_at code address ≢ ENDF))))

-- ---- laws

-- a skip has one result
abbrev pub SkipIsOne : Type 0
SkipIsOne =
    (stops : ℕ → ℕ → Bool) (code : List ℕ) (from : ℕ) (r r' : Result ℕ CodeFault)
    → LeadsPast stops code from r → LeadsPast stops code from r' → r ≡ r'

-- the same past a definition
abbrev pub DefinitionSkipIsOne : Type 0
DefinitionSkipIsOne =
    (code : List ℕ) (from : ℕ) (r r' : Result ℕ CodeFault)
    → LeadsPastDefinition code from r → LeadsPastDefinition code from r' → r ≡ r'
