-- The variation data of glyphs (OpenType, "gvar", "gvar header").
use Rattle.std.specs.Prelude.{ℕ, suc, ◌+◌, ◌-◌, ◌*◌, List, length, take, drop, Bool, ◌==◌, ◌&&◌, nat_le, if◌then◌else◌}
use Rattle.fx_sfnt.specs.Fields.{field}
use Rattle.fx_glyf.specs.Words.{has}
use Rattle.fx_axes.specs.Sweeps.{all_from}

-- the shared tuples: sharedTupleCount tuples of a coordinate for each axis, from sharedTuplesOffset on
abbrev pub shared_size : ℕ → List ℕ → ℕ
shared_size axes gvar = 2 * axes * field 2 gvar 6

unfoldable pub shared_tuples_of : ℕ → List ℕ → List ℕ
shared_tuples_of axes gvar = take (shared_size axes gvar) (drop (field 4 gvar 8) gvar)

-- bit 0 of flags: glyphVariationDataOffsets take four bytes each, else two bytes, which hold half of the offset
abbrev pub is_long : List ℕ → Bool
is_long gvar = has (field 2 gvar 14) 1

abbrev pub offset_size : List ℕ → ℕ
offset_size gvar = if is_long gvar then 4 else 2

-- where the data of a glyph begin, from glyphVariationDataArrayOffset on
unfoldable pub data_offset : List ℕ → ℕ → ℕ
data_offset gvar g = if is_long gvar then field 4 gvar (20 + 4 * g) else 2 * field 2 gvar (20 + 2 * g)

abbrev pub data_start : List ℕ → ℕ → ℕ
data_start gvar g = field 4 gvar 16 + data_offset gvar g

-- the data of a glyph do not end before they begin
abbrev pub rises : List ℕ → ℕ → Bool
rises gvar g = nat_le (data_offset gvar g) (data_offset gvar (suc g))

-- glyphCount
abbrev pub glyph_count : List ℕ → ℕ
glyph_count gvar = field 2 gvar 12

-- an offset for each glyph, and one more, lie in the table
abbrev pub holds_offsets : ℕ → List ℕ → Bool
holds_offsets glyphs gvar = nat_le (20 + offset_size gvar * (glyphs + 1)) (length gvar)

-- a header of version 1.0 with these numbers of axes and glyphs
unfoldable pub is_header : ℕ → ℕ → List ℕ → Bool
is_header axes glyphs gvar = field 4 gvar 0 == 0x00010000 && field 2 gvar 4 == axes && field 2 gvar 12 == glyphs

-- a table with its shared tuples, and offsets that rise within it
unfoldable pub is_gvar : ℕ → ℕ → List ℕ → Bool
is_gvar axes glyphs gvar =
    nat_le 20 (length gvar) && is_header axes glyphs gvar && nat_le (field 4 gvar 8 + shared_size axes gvar) (length gvar) &&
    holds_offsets glyphs gvar && all_from (rises gvar) 0 glyphs && nat_le (data_start gvar glyphs) (length gvar)

-- the data of a glyph; none if its offset is the next one's
unfoldable pub glyph_data_of : List ℕ → ℕ → List ℕ
glyph_data_of gvar g = take (data_offset gvar (suc g) - data_offset gvar g) (drop (data_start gvar g) gvar)
