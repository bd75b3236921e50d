-- What is written of a strike.
use Rattle.std.specs.Prelude.{◌≡◌, ℕ, ◌+◌, ◌-◌, ◌*◌, ◌^◌, ◌<◌, ◌≤◌, nat_lt, false, List, ◌++◌, length, take, Result, Ok, Err, OnOk}
use Rattle.std.specs.Io.KnownBytes.{Appends}
use Rattle.std.specs.List.{flat_map, list_any}
use Rattle.fx_fixed.specs.Texts.{TextView, Adds, after, length_of}
use Rattle.fx_bdf.specs.Text.{glyph_text, header_text, end_text, longest_header, longest_glyph}
use Rattle.fx_bdf.specs.Properties.{seen_properties}
use Rattle.fx_request.specs.declared.refusal.Refusal.TheVariants.{WriteFailed, OutOfMemory}
use Rattle.fx_fixed.specs.Changes.{Change}
pub use Rattle.fx_strike.specs.declared.second_pass.Draft.{Draft}
use Rattle.fx_strike.specs.inner.Mapping.{fates_in, Mapped}
use Rattle.fx_strike.specs.Strike.{Sketch, Setting, Fate, AreGlyphsOf, sketches_in, Glyph, max_characters, max_code}
use Rattle.fx_strike.specs.Strike.{Refusal, OnRefused}

-- ---- lines

-- the lines of the glyphs of sketches
pub record AreLinesIn (sketches : List Sketch) (lines : List ℕ) : Type 0 where
  pub glyphs : List Glyph
  pub drawn : AreGlyphsOf sketches glyphs
  pub lines_are : lines ≡ flat_map glyph_text glyphs

-- the lines of characters: those of the glyphs of all that are not left out
pub record AreLinesOf (setting : Setting) (refused : OnRefused) (mapped : List Mapped) (lines : List ℕ) : Type 0 where
  pub fates : List Fate
  pub planned : fates_in setting refused mapped ≡ Ok fates
  pub of : AreLinesIn (flat_map sketches_in fates) lines

-- characters are as few, and their code points as small, as the limits say
pub record AreMapped (mapped : List Mapped) : Type 0 where
  pub few : length mapped ≤ max_characters
  pub small : list_any (λ m. nat_lt max_code m.code) mapped ≡ false

-- the text of a strike with these lines
abbrev pub draft_text : Draft → List ℕ → List ℕ
draft_text draft lines =
    header_text draft.name.now (seen_properties draft.properties.now) draft.header ++ (lines ++ end_text)

-- ---- as much of a text as was written

-- a text stopped after n bytes: out of memory, or the writer failed, and its count of them is exact
abbrev pub Stops : Refusal → ℕ → ℕ → ℕ → Type 0
Stops OutOfMemory n faults_before faults = faults ≡ faults_before
Stops (WriteFailed m) n faults_before faults = (m ≡ n) × (n < 2 ^ 64 - 1) × (faults ≡ faults_before + 1)
Stops _ n faults_before faults = ⊥

-- lines were added to a text, as others will be: all of them; or it stopped in the lines and what follows them
abbrev pub AddsMoreBy : TextView → TextView → List ℕ → Result (Unit {0}) Refusal → Type 0
AddsMoreBy was now lines (Ok _) = Adds Stops was now lines (Ok tt)
AddsMoreBy was now lines (Err refusal) = (more : List ℕ) → 0 < length more → Adds Stops was now (lines ++ more) (Err refusal)

-- lines of this kind, `most` bytes at most, were added to a text, as others will be; or it stopped in them or before what follows
pub record AddsPart (Are : List ℕ → Type 0) (most : ℕ) (was now : TextView) (result : Result (Unit {0}) Refusal) : Type 0 where
  pub same : now.sink ≡ was.sink
  pub quiet : OnOk result (now.faults ≡ was.faults)
  pub short : OnOk result (length_of now ≤ length_of was + most)
  pub lines : (lines : List ℕ) → Are lines → AddsMoreBy was now lines result

-- how many bytes the lines of all glyphs have at most
abbrev pub longest_glyphs : ℕ
longest_glyphs = max_characters * longest_glyph

-- and how many the text of a strike
abbrev pub longest_text : ℕ
longest_text = longest_header + (longest_glyphs + length end_text)

-- the bytes of a text, and n more, are counted exactly, and so is a fault
pub record HasRoom (text : TextView) (n : ℕ) : Type 0 where
  pub bytes : length_of text + n < 2 ^ 64 - 1
  pub faults : text.faults < 2 ^ 63

-- all of a text was written; or exactly its first k bytes, when memory ran out or the writer failed
abbrev pub WritesBy : Change → List ℕ → Result (Unit {0}) Refusal → Type 0
WritesBy change text (Ok _) = Appends change.bytes_before change.bytes text × (change.faults ≡ change.faults_before)
WritesBy change text (Err refusal) =
    (k : ℕ) × (k < length text) × Appends change.bytes_before change.bytes (take k text)
    × Stops refusal (after 0 k) change.faults_before change.faults

-- the same as a record, so that a proof finds its arguments
pub record Writes (change : Change) (text : List ℕ) (result : Result (Unit {0}) Refusal) : Type 0 where
  pub outcome : WritesBy change text result
