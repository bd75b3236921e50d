-- The programs of a font, and what a call that lists one leaves.
use Rattle.std.specs.Prelude.{◌≡◌, ℕ, ◌+◌, ◌<◌, List, [], codes, length, take, Result, Ok, Err}
use Rattle.std.specs.Io.KnownBytes.{Appends, Keeps}
use Rattle.fx_fixed.specs.Chain.{◌>>=◌, map_fault}
use Rattle.fx_sfnt.specs.Collections.{FontFileView}
use Rattle.fx_sfnt.specs.Tables.{Face, font_of, table_or_empty}
use Rattle.fx_sfnt.specs.Glyphs.{glyph_bytes_of}
use Rattle.fx_glyf.specs.declared.glyph.Glyph as glyf
use Rattle.fx_glyf.specs.declared.glyph.Glyph.TheVariants.{Empty, Simple, Composite}
use Rattle.fx_glyf.specs.Glyphs.{glyph_of}
use Rattle.fx_code.specs.Listing.{listing_text}
use Rattle.fx_machine.specs.declared.program.FontProgram.{FontProgram}
use Rattle.fx_machine.specs.declared.program.FontProgram.TheVariants as program
use Rattle.fx_request.specs.declared.refusal.Refusal.{Refusal}
use Rattle.fx_request.specs.declared.refusal.Refusal.TheVariants.{WriteFailed}
use Rattle.fx_request.specs.Faults.{of_font, of_glyph}
use Rattle.fx_fixed.specs.Changes.{Change}

-- ---- programs

-- the program in a glyph's description
abbrev pub code_of : glyf.Glyph → List ℕ
code_of Empty = []
code_of (Simple shape) = shape.code
code_of (Composite assembly) = assembly.code

-- a program of an opened font, empty if its table is absent; or the first cause why it can't be read
abbrev pub program_in : Face → FontProgram → Result (List ℕ) Refusal
program_in face program.Fpgm = Ok (table_or_empty face (codes "fpgm"))
program_in face program.Prep = Ok (table_or_empty face (codes "prep"))
program_in face (program.Glyph g) = do
  bytes ← map_fault of_font (glyph_bytes_of face g)
  glyph ← map_fault of_glyph (glyph_of bytes g)
  Ok (code_of glyph)

-- and of a font file
unfoldable pub program_of : FontFileView → FontProgram → Result (List ℕ) Refusal
program_of file what = do
  face ← map_fault of_font (font_of file)
  program_in face what

-- ---- their listing

-- the program exists, its listing was written, and the writer counted no fault
pub record IsListed (program : Result (List ℕ) Refusal) (change : Change) : Type 0 where
  pub code : List ℕ
  pub is : program ≡ Ok code
  pub written : Appends change.bytes_before change.bytes (listing_text code)
  pub quiet : change.faults ≡ change.faults_before

-- the first cause was named, nothing was written, and the writer counted no fault
pub record IsNotListed (program : Result (List ℕ) Refusal) (change : Change) (refusal : Refusal) : Type 0 where
  pub first : program ≡ Err refusal
  pub kept : Keeps change.bytes_before change.bytes
  pub quiet : change.faults ≡ change.faults_before

-- the writer failed: the program exists, exactly the first n bytes of its listing were written, and the writer counted one fault
pub record IsListedTo (program : Result (List ℕ) Refusal) (change : Change) (n : ℕ) : Type 0 where
  pub code : List ℕ
  pub is : program ≡ Ok code
  pub short : n < length (listing_text code)
  pub written : Appends change.bytes_before change.bytes (take n (listing_text code))
  pub fault : change.faults ≡ change.faults_before + 1

-- a refusal other than a fault of the writer
abbrev pub IsNoFault : Refusal → Type 0
IsNoFault (WriteFailed n) = ⊥
IsNoFault _ = Unit {0}

-- all of it, by the result
abbrev pub Lists : Result (List ℕ) Refusal → Change → Result (Unit {0}) Refusal → Type 0
Lists program change (Ok _) = IsListed program change
Lists program change (Err (WriteFailed n)) = IsListedTo program change n
Lists program change (Err refusal) = IsNotListed program change refusal
