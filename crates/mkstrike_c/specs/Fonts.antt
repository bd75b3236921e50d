-- What a call from C returns and leaves that tells about a font, its names, its characters, or their glyphs by their numbers.
use Rattle.std.specs.Prelude.{◌≡◌, ◌<◌, ◌≤◌, ℕ, ◌+◌, List, ◌∷◌, ◌++◌, length, map, drop, Option, Some, Result, Ok}
use Rattle.fx_cmap.specs.Lookup.{glyph_for}
use Rattle.fx_cmap.specs.Mapped.{mapped_below}
use Rattle.fx_cmap.specs.declared.mapping.Mapping.{Mapping}
use Rattle.fx_fixed.specs.Chain.{map_ok}
use Rattle.fx_names.specs.Names.{name_of}
use Rattle.fx_request.specs.Limits.{max_code}
use Rattle.fx_request.specs.declared.refusal.Refusal.{Refusal}
use Rattle.fx_sfnt.specs.Collections.{FontFileView}
use Rattle.fx_sfnt.specs.Tables.{font_of}
use Rattle.fx_sfnt.specs.declared.fault.FontFault.{FontFault}
use Rattle.fx_views.specs.declared.numbers.FontMetrics.{FontMetrics}
use Rattle.mkstrike_c.specs.declared.font.FontInfo.{FontInfo}
use Rattle.mkstrike_c.specs.Drawn.{HasFront}

-- what C is told of a font at a size
abbrev pub font_info_of : FontMetrics → FontInfo
font_info_of m = record { ascent = m.ascent; descent = m.descent; line_gap = m.line_gap; glyphs = m.glyphs }

-- the font's character map opens, and as many of the numbers of the characters' glyphs as fit stand at the front of the caller's
-- buffer: 0 for a character that the font does not have
pub record AreFound (due : Result Mapping Refusal) (codes old new : List ℕ) : Type 0 where
  pub mapping : Mapping
  pub is : due ≡ Ok mapping
  pub ids : HasFront (map (glyph_for mapping) codes) old new

-- the font's character map opens; as many of its characters as fit are at the front of the caller's buffer, in rising order, and
-- the count is that of all
pub record AreCharacters (due : Result Mapping Refusal) (old new : List ℕ) (count : ℕ) : Type 0 where
  pub mapping : Mapping
  pub is : due ≡ Ok mapping
  pub codes : HasFront (mapped_below mapping (max_code + 1)) old new
  pub count_is : count ≡ length (mapped_below mapping (max_code + 1))

-- if a text and a 0 after it fit, they are at the front of the caller's buffer, and what lies after them is as it was; else all is
-- as it was
pub record HasText (text old new : List ℕ) : Type 0 where
  pub whole : length text < length old → new ≡ text ++ 0 ∷ drop (length text + 1) old
  pub small : length old ≤ length text → new ≡ old

-- a name of a font by its number, if the font has it; or the first fault
abbrev pub name_at : FontFileView → ℕ → Result (Option (List ℕ)) FontFault
name_at file id = map_ok (λ face. name_of face id) (font_of file)

-- the font has a name; the caller's buffer has its text, and the count is that of its bytes
pub record HasName (due : Result (Option (List ℕ)) FontFault) (old new : List ℕ) (count : ℕ) : Type 0 where
  pub name : List ℕ
  pub is : due ≡ Ok (Some name)
  pub text : HasText name old new
  pub count_is : count ≡ length name
