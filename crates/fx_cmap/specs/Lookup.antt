-- The character map: which subtable is taken, and the glyph of a character.
-- OpenType, "cmap", "Encoding records and encodings".
use Rattle.std.specs.Prelude.{ℕ, ◌+◌, ◌*◌, List, [], ◌∷◌, length, drop, find, codes, Option, Some, None, option_map, Result}
use Rattle.std.specs.Prelude.{Bool, false, ◌==◌, ◌&&◌, nat_lt, nat_le}
use Rattle.std.specs.Option.{option_or}
use Rattle.fx_fixed.specs.Chain.{◌>>=◌, refuse, wanted, map_ok}
use Rattle.fx_sfnt.specs.Fields.{field, number_at}
use Rattle.fx_sfnt.specs.Tables.{Face, records, table_in}
use Rattle.fx_cmap.specs.Segments.{segments_at, glyph_by_segments}
use Rattle.fx_cmap.specs.Groups.{groups_at, glyph_by_groups}
use Rattle.fx_cmap.specs.declared.fault.CharMapFault.{CharMapFault}
use Rattle.fx_cmap.specs.declared.fault.CharMapFault.TheVariants.{NoCharMap, BadCharMap}
use Rattle.fx_cmap.specs.declared.candidates.Candidate.{Candidate}
use Rattle.fx_cmap.specs.declared.candidates.Format.{Format}
use Rattle.fx_cmap.specs.declared.candidates.Format.TheVariants.{Four, Twelve}
use Rattle.fx_cmap.specs.declared.mapping.Mapping.{Mapping}
use Rattle.fx_cmap.specs.declared.mapping.Mapping.TheVariants.{Segments, Groups}

-- the number of a format
abbrev pub number_of : Format → ℕ
number_of Four = 4
number_of Twelve = 12

-- the subtable at an offset has a format
abbrev pub has_format : ℕ → List ℕ → ℕ → Bool
has_format format cmap start = is_format (number_at 2 cmap start) where
  is_format : Option ℕ → Bool
  is_format None = false
  is_format (Some number) = number == format

-- an encoding record (platform, encoding, offset) is one that a candidate looks for: of its platform, with an encoding in its
-- range, and with a subtable of its format
abbrev pub is_record_of : Candidate → List ℕ → List ℕ → Bool
is_record_of c cmap entry =
    field 2 entry 0 == c.platform && (nat_le c.low (field 2 entry 2) && nat_le (field 2 entry 2) c.high)
    && has_format (number_of c.format) cmap (field 4 entry 4)

-- the format of a candidate and the offset of the subtable of the first record that it looks for
abbrev pub first_subtable_of : List ℕ → Candidate → Option (Format × ℕ)
first_subtable_of cmap c =
    option_map (λ entry. (c.format, field 4 entry 4))
    (find (is_record_of c cmap) (records 8 (field 2 cmap 2) (drop 4 cmap)))

-- the subtable of the first candidate that has one
abbrev pub chosen_of : List ℕ → List Candidate → Option (Format × ℕ)
chosen_of cmap [] = None
chosen_of cmap (c ∷ more) = option_or (first_subtable_of cmap c) (chosen_of cmap more)

-- a candidate: a format, a platform, and a range of encodings
abbrev candidate : Format → ℕ → ℕ → ℕ → Candidate
candidate format platform low high = record { format = format; platform = platform; low = low; high = high }

-- the candidates, in order of preference: format 12 for Windows with all of Unicode, for Unicode; then format 4 for Windows with
-- Unicode, for Unicode, for Windows with symbols
abbrev pub candidates : List Candidate
candidates =
    candidate Twelve 3 10 10
    ∷ candidate Twelve 0 0 6
    ∷ candidate Four 3 1 1
    ∷ candidate Four 0 0 3
    ∷ candidate Four 3 0 0
    ∷ []

-- the subtable of a format at an offset, or its first fault
abbrev pub subtable_at : List ℕ → Format × ℕ → Result Mapping CharMapFault
subtable_at cmap (Twelve, start) = map_ok Groups (groups_at cmap start)
subtable_at cmap (Four, start) = map_ok Segments (segments_at cmap start)

-- the character map in the bytes of `cmap`, or the first fault
unfoldable pub char_map_of : List ℕ → Result Mapping CharMapFault
char_map_of cmap = do
  _ ← refuse (nat_lt (length cmap) 4) BadCharMap
  _ ← refuse (nat_lt (length cmap) (4 + 8 * field 2 cmap 2)) BadCharMap
  chosen ← wanted (chosen_of cmap candidates) NoCharMap
  subtable_at cmap chosen

-- the character map of a font, or the first fault
unfoldable pub map_of : Face → Result Mapping CharMapFault
map_of face = do
  cmap ← wanted (table_in face (codes "cmap")) NoCharMap
  char_map_of cmap

-- the glyph of a character code, 0 if it has none
abbrev pub glyph_for : Mapping → ℕ → ℕ
glyph_for (Segments table) code = glyph_by_segments table code
glyph_for (Groups groups) code = glyph_by_groups groups code
