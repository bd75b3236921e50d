-- The characters of a strike that the font has, with their glyphs.
use Rattle.std.specs.Prelude.{ℕ, ◌==◌, not, Bool, List, map, filter}
use Rattle.fx_cmap.specs.Lookup.{glyph_for}
use Rattle.fx_cmap.specs.declared.mapping.Mapping.{Mapping}
pub use Rattle.fx_strike.specs.declared.characters.Mapped.{Mapped}

-- a map has no glyph for a code point
abbrev pub lacks : Mapping → ℕ → Bool
lacks map code = glyph_for map code == 0

-- a code point with its glyph
abbrev pub mapped_at : Mapping → ℕ → Mapped
mapped_at map code = record { code = code; glyph = glyph_for map code }

-- those code points that have a glyph, with it
abbrev pub mapped_of : Mapping → List ℕ → List Mapped
mapped_of table codes = map (mapped_at table) (filter (λ c. not (lacks table c)) codes)
