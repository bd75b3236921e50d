-- One glyph of a font, chosen by a character or by its number.
use Rattle.std.specs.Prelude.{ℕ, ◌==◌, if◌then◌else◌, [], ◌∷◌, Option, Some, None, Result, Ok}
use Rattle.fx_fixed.specs.Chain.{◌>>=◌, map_ok}
use Rattle.fx_cmap.specs.Lookup.{glyph_for}
use Rattle.fx_cmap.specs.declared.mapping.Mapping.{Mapping}
use Rattle.fx_request.specs.declared.request.Choice.{Choice}
use Rattle.fx_request.specs.declared.request.Choice.TheVariants.{Character, Number}
use Rattle.fx_strike.specs.Strike.{Opening, Setting, Sketch, checked_chars, one_with, opened_after, setting_in, FontFileView, Mode, Refusal}
use Rattle.fx_strike.specs.Numbered.{numbered_with}

-- its number, if the font has the character
abbrev pub chosen_glyph : Mapping → Choice → Option ℕ
chosen_glyph map (Character code) = if glyph_for map code == 0 then None else Some (glyph_for map code)
chosen_glyph map (Number glyph) = Some glyph

-- the choice is within its limits
abbrev pub checked_choice : Choice → Result (Unit {0}) Refusal
checked_choice (Character code) = checked_chars (code ∷ [])
checked_choice (Number glyph) = Ok tt

-- what takes no memory, or the first cause
abbrev pub opened_choice_of : FontFileView → ℕ → Choice → Opening
opened_choice_of file ppem choice = opened_after ppem (checked_choice choice) file

-- its sketch, none if the font lacks the character; or the first cause
abbrev pub choice_with : Setting → Choice → Result (Option Sketch) Refusal
choice_with setting (Character code) = one_with setting code
choice_with setting (Number glyph) = map_ok Some (numbered_with setting glyph)

-- the same of a font file at a size
unfoldable pub choice_of : FontFileView → ℕ → Choice → Mode → Result (Option Sketch) Refusal
choice_of file ppem choice mode = do
  opened ← opened_choice_of file ppem choice
  setting ← setting_in opened mode
  choice_with setting choice
