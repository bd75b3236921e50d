-- A glyph's metrics, and its bytes.
-- OpenType, "hmtx", "loca", "glyf".
use Rattle.std.specs.Prelude.{ℕ, ◌+◌, ◌-◌, ◌*◌, min, ℤ, pos, List, length, take, drop, codes, Option, option_map, unwrap_or, Result}
use Rattle.std.specs.Prelude.{Ok, ◌==◌, ◌&&◌, not, nat_lt, nat_le, if◌then◌else◌}
use Rattle.fx_fixed.specs.Chain.{◌>>=◌, refuse, wanted}
use Rattle.fx_sfnt.specs.Fields.{field, number_at, signed_at}
use Rattle.fx_sfnt.specs.Tables.{Face, table_or_empty}
use Rattle.fx_sfnt.specs.declared.fault.FontFault.{FontFault}
use Rattle.fx_sfnt.specs.declared.fault.FontFault.TheVariants.{BadLoca, BadGlyphNumber}
use Rattle.fx_sfnt.specs.declared.records.LocFormat.{LocFormat}
use Rattle.fx_sfnt.specs.declared.records.LocFormat.TheVariants.{Short, Long}
use Rattle.fx_sfnt.specs.declared.records.Metrics.{Metrics}

-- a glyph's advance, by the number of pairs in `hmtx` of an advance and a left side bearing; a glyph past them has the last pair's
abbrev pub advance_width_of : List ℕ → ℕ → ℕ → ℕ
advance_width_of hmtx pairs g = field 2 hmtx (4 * min g (pairs - 1))

-- the offset of a glyph's left side bearing: in its pair, or in the list of bearings after the pairs
abbrev pub lsb_offset : ℕ → ℕ → ℕ
lsb_offset pairs g = if nat_lt g pairs then 4 * g + 2 else 4 * pairs + 2 * (g - pairs)

-- a glyph's left side bearing, 0 past the table's end
abbrev pub lsb_of : List ℕ → ℕ → ℕ → ℤ
lsb_of hmtx pairs g = unwrap_or (signed_at hmtx (lsb_offset pairs g)) (pos 0)

-- a glyph's advance and left side bearing
unfoldable pub metrics_of : Face → ℕ → Result Metrics FontFault
metrics_of face g = do
  _ ← refuse (nat_le face.maxp.num_glyphs g) (BadGlyphNumber g)
  let hmtx = table_or_empty face (codes "hmtx") in
      Ok (record {
        advance_width = advance_width_of hmtx face.hhea.number_of_h_metrics g;
        lsb = lsb_of hmtx
            face.hhea.number_of_h_metrics g;
      })

-- the offset of a number in `loca`: two bytes that hold half of it, or four
abbrev pub loca_offset_of : LocFormat → List ℕ → ℕ → Option ℕ
loca_offset_of Short loca k = option_map (λ half. 2 * half) (number_at 2 loca (2 * k))
loca_offset_of Long loca k = number_at 4 loca (4 * k)

-- a glyph's part of `glyf`, cut at the end of `glyf`
unfoldable pub glyph_data_of : LocFormat → List ℕ → List ℕ → ℕ → Result (List ℕ) FontFault
glyph_data_of format loca glyf g = do
  start ← wanted (loca_offset_of format loca g) (BadLoca g)
  end ← wanted (loca_offset_of format loca (g + 1)) (BadLoca g)
  _ ← refuse (nat_lt end start) (BadLoca g)
  _ ← refuse (nat_lt (length glyf) start && not (start == end)) (BadLoca g)
  Ok (take (end - start) (drop start glyf))

-- a glyph's bytes
unfoldable pub glyph_bytes_of : Face → ℕ → Result (List ℕ) FontFault
glyph_bytes_of face g = do
  _ ← refuse (nat_le face.maxp.num_glyphs g) (BadGlyphNumber g)
  glyph_data_of face.head.index_to_loc_format (table_or_empty face (codes "loca")) (table_or_empty face (codes "glyf")) g
