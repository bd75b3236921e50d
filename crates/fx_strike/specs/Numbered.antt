-- Glyphs by their numbers in the font.
use Rattle.std.specs.Prelude.{◌≡◌, ◌&&◌, ℕ, Bool, true, false, Option, Some, None, is_none, Result, Ok, Err}
use Rattle.fx_fixed.specs.Chain.{◌>>=◌, refuse, map_fault}
use Rattle.fx_hint.specs.Outlines.{GlyphOutlineView}
use Rattle.fx_request.specs.declared.refusal.Refusal.TheVariants.{TooMuchWork}
use Rattle.fx_strike.specs.Careful.{character_work, programs_left}
use Rattle.fx_strike.specs.Faults.{of_hint}
use Rattle.fx_strike.specs.Strike.{Known, Opened, Setting, Sketch, machine_within, IsGlyphOf, outline_in, programs_in, setting_of, sketch_alone}
use Rattle.fx_strike.specs.Strike.{FontFileView, Glyph, Mode, Refusal}

-- the programs of a glyph do more work than they may, if work is bounded
abbrev pub is_glyph_over : Setting → ℕ → Bool
is_glyph_over setting glyph = setting.careful && is_none (programs_in setting glyph character_work)

-- what runs before a glyph's programs did too much work, or a glyph's programs do
abbrev pub is_over_by : Result Known Refusal → Opened → Option ℕ → Bool
is_over_by (Ok known) opened None = false
is_over_by (Ok known) opened (Some glyph) =
    is_none (programs_left (Some known) opened.font opened.ppem glyph character_work)
is_over_by (Err TooMuchWork) opened glyph = true
is_over_by (Err cause) opened glyph = false

-- `fpgm` and `prep` of an opened font do more work than they may, or the programs of a glyph do, if there is one
unfoldable pub is_work_over : Opened → Option ℕ → Bool
is_work_over opened glyph = is_over_by (machine_within opened.font opened.ppem true) opened glyph

-- the outline of a glyph, or the first cause why it has none; of its work only that of its programs is bounded
unfoldable pub outlined_with : Setting → ℕ → Result GlyphOutlineView Refusal
outlined_with setting glyph = do
  _ ← refuse (is_glyph_over setting glyph) TooMuchWork
  map_fault of_hint (outline_in setting glyph)

-- the sketch of a glyph, or the first cause why it has none; it is that of no character, and its code point is 0
abbrev pub numbered_with : Setting → ℕ → Result Sketch Refusal
numbered_with setting glyph = sketch_alone setting 0 glyph

-- the same of a glyph of a font file
unfoldable pub numbered_of : FontFileView → ℕ → ℕ → Mode → Result Sketch Refusal
numbered_of file ppem glyph mode = do
  setting ← setting_of file ppem mode
  numbered_with setting glyph

-- the glyph of a sketch that is due
abbrev pub IsDrawnOf : Result Sketch Refusal → Glyph → Type 0
IsDrawnOf due glyph = (sketch : Sketch) × (due ≡ Ok sketch) × IsGlyphOf sketch glyph
