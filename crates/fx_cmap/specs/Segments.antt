-- A subtable of format 4: its segments, and the glyph of a character.
-- OpenType, "cmap", "Format 4: Segment mapping to delta values".
use Rattle.std.specs.Prelude.{ℕ, ◌+◌, ◌-◌, ◌*◌, ◌/◌, ◌%◌, List, length, map, find, Option, Some, None, Result, Ok, Bool, ◌==◌}
use Rattle.std.specs.Prelude.{nat_lt, nat_le, if◌then◌else◌}
use Rattle.std.specs.List.{range_with_len}
use Rattle.fx_fixed.specs.Chain.{◌>>=◌, refuse}
use Rattle.fx_sfnt.specs.Fields.{field, number_at}
use Rattle.fx_cmap.specs.Subtables.{falls}
use Rattle.fx_cmap.specs.declared.fault.CharMapFault.{CharMapFault}
use Rattle.fx_cmap.specs.declared.fault.CharMapFault.TheVariants.{BadCharMap}
use Rattle.fx_cmap.specs.declared.segment.Segment.{Segment}

-- what a subtable of format 4 is seen as: the bytes of `cmap`, since glyph ids may be anywhere in them, and its segments
pub record SegmentsView : Type 0 where
  pub cmap : List ℕ
  pub segments : List Segment

-- the segment with a number, of `count` segments in the subtable at an offset: endCode, startCode, idDelta, idRangeOffset and its
-- offset
unfoldable pub segment_of : List ℕ → ℕ → ℕ → ℕ → Segment
segment_of cmap start count k = record {
  end_code = field 2 cmap (start + 14 + 2 * k);
  start_code = field 2 cmap (start + 16 + 2 * count + 2 * k);
  id_delta = field 2 cmap (start + 16 + 4 * count + 2 * k);
  id_range_offset = field 2 cmap (start + 16 + 6 * count + 2 * k);
  offset = start + 16 + 6 * count + 2 * k;
}

-- the segments of the subtable at an offset
abbrev pub segments_of : List ℕ → ℕ → ℕ → List Segment
segments_of cmap start count = map (segment_of cmap start count) (range_with_len 0 count)

-- some endCode is below the one before it
abbrev pub segments_fall : List Segment → Bool
segments_fall segments = falls 0 (map (λ s. s.end_code) segments)

-- the subtable at an offset, or the first fault
unfoldable pub segments_at : List ℕ → ℕ → Result SegmentsView CharMapFault
segments_at cmap start = do
  _ ← refuse (nat_lt (length cmap) (start + 8)) BadCharMap
  let seg_count = field 2 cmap (start + 6) / 2 in do
    _ ← refuse (nat_lt (length cmap) (start + 16 + 8 * seg_count)) BadCharMap
    _ ← refuse (segments_fall (segments_of cmap start seg_count)) BadCharMap
    Ok (record { cmap = cmap; segments = segments_of cmap start seg_count })

-- the sum of a number and idDelta, modulo 65536
abbrev pub plus_id_delta : ℕ → ℕ → ℕ
plus_id_delta number id_delta = (number + id_delta) % 65536

-- the glyph of an id in the list of glyph ids, which the end of `cmap` ends: 0 stays 0, idDelta is added to another
abbrev pub glyph_of_id : Option ℕ → ℕ → ℕ
glyph_of_id None id_delta = 0
glyph_of_id (Some id) id_delta = if id == 0 then 0 else plus_id_delta id id_delta

-- the glyph of a character code in the segment that counts for it
unfoldable pub glyph_in_segment : List ℕ → Segment → ℕ → ℕ
glyph_in_segment cmap s code =
    if nat_lt code s.start_code then 0
    else if s.id_range_offset == 0 then plus_id_delta code s.id_delta
    else if s.id_range_offset == 65535 then 0
    else glyph_of_id (number_at 2 cmap (s.offset + s.id_range_offset + 2 * (code - s.start_code))) s.id_delta

-- the segment that counts for a character code, if one does: its endCode is at least the code, and no earlier one's is
abbrev pub segment_for : List Segment → ℕ → Option Segment
segment_for segments code = find (λ s. nat_le code s.end_code) segments

-- the glyph of the segment that counts; 0 if none does
abbrev pub glyph_by_segment : List ℕ → ℕ → Option Segment → ℕ
glyph_by_segment cmap code None = 0
glyph_by_segment cmap code (Some s) = glyph_in_segment cmap s code

-- the glyph of a character code
abbrev pub glyph_by_segments : SegmentsView → ℕ → ℕ
glyph_by_segments table code = glyph_by_segment table.cmap code (segment_for table.segments code)
