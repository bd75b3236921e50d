-- All characters of a font's map.
use Rattle.std.specs.Prelude.{ℕ, ◌+◌, List, [], take, Result, Ok, Err}
use Rattle.fx_sfnt.specs.Collections.{FontFileView}
use Rattle.fx_sfnt.specs.Tables.{Face}
use Rattle.fx_arguments.specs.Commands.{CharacterChoiceView, listed, mapped}
use Rattle.fx_cmap.specs.Mapped.{mapped_below}
use Rattle.fx_cmap.specs.declared.mapping.Mapping.{Mapping}
use Rattle.fx_request.specs.Limits.{max_characters, max_code}
use Rattle.fx_request.specs.declared.refusal.Refusal.{Refusal}
use Rattle.fx_strike.specs.Strike.{font_with_map}

-- the code points that have a glyph, up to a limit
unfoldable pub mapped_in : Mapping → ℕ → List ℕ
mapped_in map limit = take limit (mapped_below map (max_code + 1))

-- the code points of a font, up to the limit of a list; none if it or its map can't be opened, and then there is no strike
abbrev pub mapped_by : Result (Face × Mapping) Refusal → List ℕ
mapped_by (Ok opened) = mapped_in opened.1 max_characters
mapped_by (Err refusal) = []

abbrev pub mapped_of : FontFileView → List ℕ
mapped_of font = mapped_by (font_with_map font)

-- those of a font, if all are asked for
abbrev pub all_mapped : CharacterChoiceView → FontFileView → List ℕ
all_mapped (listed chars) font = []
all_mapped mapped font = mapped_of font

-- the characters of a list, or all of these
abbrev pub chosen_of : CharacterChoiceView → List ℕ → List ℕ
chosen_of (listed chars) all = chars
chosen_of mapped all = all
