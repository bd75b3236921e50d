-- The characters of a strike that the font has, with their glyphs.
use Rattle.std.specs.Prelude.{◌≡◌, ℕ, List, slice_index_or, Result}
use Rattle.std.specs.List.{count_by}
use Rattle.fx_fixed.specs.Chain.{map_chain}
use Rattle.fx_cmap.specs.declared.mapping.Mapping.{Mapping}
pub use Rattle.fx_strike.specs.declared.characters.Characters.{Characters}
pub use Rattle.fx_strike.specs.Characters.{Mapped, lacks, mapped_at, mapped_of}
use Rattle.fx_strike.specs.Strike.{Setting, Fate, glyph_fate_of, Refusal, OnRefused}

-- one of characters, by its index
abbrev pub mapped_in : List Mapped → ℕ → Mapped
mapped_in mapped i = slice_index_or mapped i (record { code = 0; glyph = 0 })

-- the characters are those code points that have a glyph, and the others are counted
pub record AreCharactersOf (table : Mapping) (codes : List ℕ) (characters : Characters) : Type 0 where
  pub mapped : characters.mapped.items ≡ mapped_of table codes
  pub missing : characters.missing ≡ count_by (lacks table) codes

-- what becomes of a character
abbrev pub mapped_fate_of : Setting → OnRefused → Mapped → Result Fate Refusal
mapped_fate_of setting refused m = glyph_fate_of setting refused m.code m.glyph

-- what becomes of characters, or the first cause that refuses the strike
abbrev pub fates_in : Setting → OnRefused → List Mapped → Result (List Fate) Refusal
fates_in setting refused mapped = map_chain (mapped_fate_of setting refused) mapped
