-- The map of characters to glyph numbers, and what a font is at a size.
use Rattle.std.specs.Prelude.{ℕ, ℤ, pos, neg_ℤ, List, codes, unwrap_or, Result, Ok}
use Rattle.fx_fixed.specs.Chain.{◌>>=◌}
use Rattle.fx_sfnt.specs.Fields.{signed_at}
use Rattle.fx_sfnt.specs.Tables.{Face, table_or_empty}
use Rattle.fx_cmap.specs.declared.mapping.Mapping.{Mapping}
use Rattle.fx_strike.specs.declared.opened.Opened.{Opened}
use Rattle.fx_strike.specs.Strike.{checked_chars, font_with_map, opened_at, pixels, FontFileView, Refusal}
use Rattle.fx_views.specs.declared.numbers.FontMetrics.{FontMetrics}

-- the character map of a font file, for characters within their limits; or the first cause
unfoldable pub map_for : FontFileView → List ℕ → Result Mapping Refusal
map_for file chars = do
  _ ← checked_chars chars
  opened ← font_with_map file
  Ok opened.1

-- the line gap of a font, in FUnits (OpenType, "hhea", lineGap)
abbrev pub line_gap_of : Face → ℤ
line_gap_of face = unwrap_or (signed_at (table_or_empty face (codes "hhea")) 8) (pos 0)

-- what an opened font is at its size
abbrev pub metrics_in : Opened → FontMetrics
metrics_in opened = record {
  ascent = pixels opened.font.hhea.ascender opened.ppem opened.font.head.units_per_em;
  descent = pixels (neg_ℤ opened.font.hhea.descender) opened.ppem opened.font.head.units_per_em;
  line_gap = pixels (line_gap_of opened.font) opened.ppem opened.font.head.units_per_em;
  glyphs = opened.font.maxp.num_glyphs;
}

-- the same of a font file at a size, or the first cause
unfoldable pub font_metrics_of : FontFileView → ℕ → Result FontMetrics Refusal
font_metrics_of file ppem = do
  opened ← opened_at file ppem
  Ok (metrics_in opened)
