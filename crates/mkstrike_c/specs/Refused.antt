-- Refusals as C sees them.
use Rattle.std.specs.Prelude.{◌≡◌, ℕ, Bool, true, false, List, Result, Err}
use Rattle.std.specs.Int.{from_be_bytes, w32}
use Rattle.fx_machine.specs.declared.halt.Halt.{Halt}
use Rattle.fx_machine.specs.declared.program.FontProgram.{FontProgram}
use Rattle.fx_machine.specs.declared.program.FontProgram.TheVariants.{Fpgm, Prep, Glyph}
use Rattle.fx_request.specs.declared.location.Location.{Location}
use Rattle.fx_request.specs.declared.location.Location.TheVariants as location
use Rattle.fx_request.specs.declared.refusal.Refusal.{Refusal}
use Rattle.fx_request.specs.declared.refusal.Refusal.TheVariants.{OutOfMemory}
use Rattle.fx_request.specs.Refusals.{number_of, location_of}
use Rattle.fx_strike.specs.Strike.{Opening}
use Rattle.fx_strike.specs.Headline.{Late}
use Rattle.fx_strike.specs.Faults.{Fails}
use Rattle.mkstrike_c.specs.declared.refused.Refused.{Refused}

-- no glyph, no program, no character: the greatest number of 32 bits
abbrev pub none : ℕ
none = 0xFFFFFFFF

-- the number of a refusal that only C has: a bit of the mode is not known
abbrev pub bad_mode : ℕ
bad_mode = 64

-- and of another: words are not a block of the font at this size
abbrev pub bad_block : ℕ
bad_block = 65

-- a refusal without fields
abbrev pub no_fields : ℕ → Refused
no_fields number = record {
  number = number;
  table = 0;
  glyph = none;
  during = none;
  program = none;
  opcode = 0;
  index = none;
  code = none;
  address = 0;
}

-- the tag of a table, its first byte the highest
abbrev pub with_table : ℕ → List ℕ → Refused
with_table number tag = record {
  number = number;
  table = from_be_bytes w32 tag;
  glyph = none;
  during = none;
  program = none;
  opcode = 0;
  index = none;
  code = none;
  address = 0;
}

-- a glyph
abbrev pub with_glyph : ℕ → ℕ → Refused
with_glyph number glyph = record {
  number = number;
  table = 0;
  glyph = glyph;
  during = none;
  program = none;
  opcode = 0;
  index = none;
  code = none;
  address = 0;
}

-- a program: its glyph's number, or one above all of these
abbrev pub program_number : FontProgram → ℕ
program_number Fpgm = 0x10000
program_number Prep = 0x10001
program_number (Glyph g) = g

-- a halt: the program that was started, the one that holds the instruction, its opcode and its address
abbrev pub halted : ℕ → Halt → Refused
halted number halt = record {
  number = number;
  table = 0;
  glyph = none;
  during = program_number halt.during;
  program = program_number halt.program;
  opcode = halt.opcode;
  index = none;
  code = none;
  address = halt.address;
}

-- the fields of a refusal of this number; a property and a number of bytes have none
abbrev pub fields : ℕ → Location → Refused
fields number location.Nowhere = no_fields number
fields number (location.Table tag) = with_table number tag
fields number (location.Glyph g) = with_glyph number g
fields number (location.Property i) = no_fields number
fields number (location.Bytes n) = no_fields number
fields number (location.Halt halt) = halted number halt

-- the number and the fields of a refusal
abbrev pub refused_of : Refusal → Refused
refused_of refusal = fields (number_of refusal) (location_of refusal)

-- the same of one of many characters: with its index and its code point
abbrev pub at_character : ℕ → ℕ → Refused → Refused
at_character index code r = record {
  number = r.number;
  table = r.table;
  glyph = r.glyph;
  during = r.during;
  program = r.program;
  opcode = r.opcode;
  index = index;
  code = code;
  address = r.address;
}

-- the number and the fields are those of the first cause
abbrev pub IsNamed : {Y : Type 0} → Result Y Refusal → ℕ → Refused → Type 0
IsNamed due number refused =
    (refusal : Refusal) × (due ≡ Err refusal) × (number ≡ number_of refusal) × (refused ≡ refused_of refusal)

-- why there is no value: the first cause; or memory was refused, after the request passed its checks and the font and its
-- character map opened
abbrev pub IsReason : {Y : Type 0} → Opening → Result Y Refusal → Refusal → Type 0
IsReason opening due refusal = Fails refusal due × (refusal ≡ OutOfMemory → Late opening)

-- the number and the fields of a refused call: if its mode is none, of that; else of a refusal that is the reason
abbrev pub IsRefused : {Y : Type 0} → Bool → Opening → Result Y Refusal → ℕ → Refused → Type 0
IsRefused false opening due number refused = (number ≡ bad_mode) × (refused ≡ no_fields bad_mode)
IsRefused true opening due number refused =
    (refusal : Refusal) × IsReason opening due refusal × (number ≡ number_of refusal) × (refused ≡ refused_of refusal)
