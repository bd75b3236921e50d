-- A subtable of format 12: its groups, and the glyph of a character.
-- OpenType, "cmap", "Format 12: Segmented coverage".
use Rattle.std.specs.Prelude.{ℕ, ◌+◌, ◌-◌, ◌*◌, List, length, map, find, Option, Some, None, Result, Ok, Bool, nat_lt, nat_le}
use Rattle.std.specs.Prelude.{if◌then◌else◌}
use Rattle.std.specs.List.{range_with_len}
use Rattle.fx_fixed.specs.Chain.{◌>>=◌, refuse}
use Rattle.fx_sfnt.specs.Fields.{field}
use Rattle.fx_cmap.specs.Subtables.{falls}
use Rattle.fx_cmap.specs.declared.fault.CharMapFault.{CharMapFault}
use Rattle.fx_cmap.specs.declared.fault.CharMapFault.TheVariants.{BadCharMap}
use Rattle.fx_cmap.specs.declared.group.Group.{Group}

-- the group with a number in the subtable at an offset: startCharCode, endCharCode, startGlyphID
unfoldable pub group_of : List ℕ → ℕ → ℕ → Group
group_of cmap start k = record {
  start_char_code = field 4 cmap (start + 16 + 12 * k);
  end_char_code = field 4 cmap (start + 20 + 12 * k);
  start_glyph_id = field 4 cmap (start + 24 + 12 * k);
}

-- the groups of the subtable at an offset
abbrev pub groups_of : List ℕ → ℕ → ℕ → List Group
groups_of cmap start count = map (group_of cmap start) (range_with_len 0 count)

-- some endCharCode is below the one before it
abbrev pub groups_fall : List Group → Bool
groups_fall groups = falls 0 (map (λ g. g.end_char_code) groups)

-- the subtable at an offset, or the first fault; its fields length and language are not looked at
unfoldable pub groups_at : List ℕ → ℕ → Result (List Group) CharMapFault
groups_at cmap start = do
  _ ← refuse (nat_lt (length cmap) (start + 16)) BadCharMap
  let num_groups = field 4 cmap (start + 12) in do
    _ ← refuse (nat_lt (length cmap) (start + 16 + 12 * num_groups)) BadCharMap
    _ ← refuse (groups_fall (groups_of cmap start num_groups)) BadCharMap
    Ok (groups_of cmap start num_groups)

-- a glyph id, which has 16 bits; a greater number is no glyph, so 0
abbrev pub glyph_id_of : ℕ → ℕ
glyph_id_of number = if nat_le number 65535 then number else 0

-- the glyph of a character code in the group that counts for it
unfoldable pub glyph_in_group : Group → ℕ → ℕ
glyph_in_group g code =
    if nat_lt code g.start_char_code then 0
    else glyph_id_of (g.start_glyph_id + (code - g.start_char_code))

-- the group that counts for a character code, if one does: its endCharCode is at least the code, and no earlier one's is
abbrev pub group_for : List Group → ℕ → Option Group
group_for groups code = find (λ g. nat_le code g.end_char_code) groups

-- the glyph of the group that counts; 0 if none does
abbrev pub glyph_by_group : ℕ → Option Group → ℕ
glyph_by_group code None = 0
glyph_by_group code (Some g) = glyph_in_group g code

-- the glyph of a character code
abbrev pub glyph_by_groups : List Group → ℕ → ℕ
glyph_by_groups groups code = glyph_by_group code (group_for groups code)
