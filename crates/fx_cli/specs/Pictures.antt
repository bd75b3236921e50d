-- The picture of a character, as text.
use Rattle.std.specs.Prelude.{◌≡◌, ◌+◌, ◌*◌, ◌<◌, ℕ, Bool, true, false, List, [], ◌∷◌, ◌++◌, map}
use Rattle.std.specs.Prelude.{length, take, codes, Option, Some, None}
use Rattle.std.specs.Prelude.{Result, Ok, Err, if◌then◌else◌}
use Rattle.std.specs.Io.KnownBytes.{Appends, Keeps}
use Rattle.std.specs.List.{flat_map}
use Rattle.fx_fixed.specs.Changes.{Change}
use Rattle.fx_winding.specs.Limits.{greatest_side}
use Rattle.fx_bdf.specs.Glyphs.{Glyph, is_empty}
use Rattle.fx_request.specs.declared.refusal.Refusal.{Refusal}
use Rattle.fx_request.specs.declared.refusal.Refusal.TheVariants.{OutOfMemory, WriteFailed}
use Rattle.fx_strike.specs.Strike.{Sketch, Opening}
use Rattle.fx_strike.specs.Headline.{IsOneOf, Late}
use Rattle.fx_strike.specs.Faults.{Fails}

-- '#' for a set bit, '.' for a clear bit
abbrev pub dot_of : Bool → ℕ
dot_of true = 35
dot_of false = 46

-- a row's line, the leftmost pixel first
abbrev pub row_line : List Bool → List ℕ
row_line row = map dot_of row ++ 10 ∷ []

-- the rows of a glyph's box from the top, a line a row; `empty` if the box has no pixel, which is if no bit is set
unfoldable pub picture_of : Glyph → List ℕ
picture_of glyph = if is_empty glyph.box then codes "empty\n" else flat_map row_line glyph.rows

-- the picture of a character's glyph; `missing` if the font has no glyph of it
abbrev pub shown_of : Option Glyph → List ℕ
shown_of None = codes "missing\n"
shown_of (Some glyph) = picture_of glyph

-- how many bytes a picture has at most
abbrev pub longest_picture : ℕ
longest_picture = (greatest_side + 1) * greatest_side

-- ---- what a call that shows a character leaves

-- the glyph of the character is due, its picture was written, and the sink counted no fault
pub record IsShown (due : Result (Option Sketch) Refusal) (sink : Change) : Type 0 where
  pub glyph : Option Glyph
  pub is : IsOneOf due glyph
  pub written : Appends sink.bytes_before sink.bytes (shown_of glyph)
  pub quiet : sink.faults ≡ sink.faults_before

-- out of memory, or the first cause was named; nothing was written, and the sink counted no fault
pub record IsNotShown (due : Result (Option Sketch) Refusal) (sink : Change) (refusal : Refusal) : Type 0 where
  pub first : Fails refusal due
  pub kept : Keeps sink.bytes_before sink.bytes
  pub quiet : sink.faults ≡ sink.faults_before

-- the sink failed: the glyph of the character is due, exactly the first n bytes of its picture were written, and the sink counted
-- one fault
pub record IsShownTo (due : Result (Option Sketch) Refusal) (sink : Change) (n : ℕ) : Type 0 where
  pub glyph : Option Glyph
  pub is : IsOneOf due glyph
  pub short : n < length (shown_of glyph)
  pub written : Appends sink.bytes_before sink.bytes (take n (shown_of glyph))
  pub fault : sink.faults ≡ sink.faults_before + 1

-- all of it, by the result; memory is taken late
abbrev pub Shows : Opening → Result (Option Sketch) Refusal → Change → Result (Unit {0}) Refusal → Type 0
Shows opening due sink (Ok _) = IsShown due sink
Shows opening due sink (Err OutOfMemory) = Late opening × IsNotShown due sink OutOfMemory
Shows opening due sink (Err (WriteFailed n)) = IsShownTo due sink n
Shows opening due sink (Err refusal) = IsNotShown due sink refusal
