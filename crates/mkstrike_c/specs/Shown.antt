-- What a call from C that makes one character returns and leaves. `old` and `new` are the caller's buffer before and after.
use Rattle.std.specs.Prelude.{◌≡◌, ◌≤◌, ◌<◌, ℕ, min, Bool, List, length, take, drop, Result, Ok, Option, Some, None}
use Rattle.std.specs.List.{flat_map}
use Rattle.fx_fixed.specs.Chain.{map_ok}
use Rattle.fx_sfnt.specs.Collections.{FontFileView}
use Rattle.fx_bdf.specs.Glyphs as bits
use Rattle.fx_request.specs.declared.refusal.Refusal.{Refusal}
use Rattle.fx_request.specs.declared.request.Mode.{Mode}
use Rattle.fx_strike.specs.Strike.{Sketch}
use Rattle.fx_strike.specs.Headline.{IsOneOf}
use Rattle.fx_strike.specs.Numbered.{numbered_of}
use Rattle.mkstrike_c.specs.declared.glyph.GlyphInfo.{GlyphInfo}
use Rattle.mkstrike_c.specs.Pixels.{row_bytes, size_of, stride_of}

-- the numbers of a glyph
abbrev pub info_of : Bool → bits.Glyph → GlyphInfo
info_of packed g = record {
  width = g.box.width;
  height = g.box.height;
  left = g.box.left;
  bottom = g.box.bottom;
  stride = stride_of packed g.box.width;
  dwidth = g.dwidth;
  swidth = g.swidth;
}

-- what a call returns of a character that was looked up: 1 if the font does not have it
abbrev pub status_of : Option bits.Glyph → ℕ
status_of (Some g) = 0
status_of None = 1

-- if the caller's buffer has room for the pixels, they stand at its front, and what lies after them is as it was; else all is as
-- it was
pub record HasPixels (packed : Bool) (g : bits.Glyph) (old new : List ℕ) : Type 0 where
  pub front : size_of packed g ≤ length old → take (size_of packed g) new ≡ flat_map (row_bytes packed) g.rows
  pub rest : drop (size_of packed g) new ≡ drop (size_of packed g) old
  pub small : length old < size_of packed g → new ≡ old

-- a glyph is due, and these are its numbers and its pixels
pub record IsShown (packed : Bool) (due : Result (Option Sketch) Refusal) (old new : List ℕ) (info : GlyphInfo) : Type 0 where
  pub glyph : bits.Glyph
  pub is : IsOneOf due (Some glyph)
  pub info_is : info ≡ info_of packed glyph
  pub pixels : HasPixels packed glyph old new

-- the font does not have the character
abbrev pub IsMissing : Result (Option Sketch) Refusal → Type 0
IsMissing due = due ≡ Ok None

-- the sketch of a glyph by its number, which C has in 32 bits; no font has a glyph of the number 65,535
abbrev pub by_id : FontFileView → ℕ → ℕ → Mode → Result (Option Sketch) Refusal
by_id file ppem glyph mode = map_ok Some (numbered_of file ppem (min glyph 65535) mode)
