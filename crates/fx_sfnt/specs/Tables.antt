-- The directory of a font file, and the fields of its tables.
-- OpenType, "Organization of an OpenType font", "head", "maxp", "hhea", "hmtx".
use Rattle.std.specs.Prelude.{ℕ, zero, suc, ◌+◌, ◌*◌, List, [], ◌∷◌, length, take, drop, find, codes, Option, Some, None}
use Rattle.std.specs.Prelude.{option_map, unwrap_or, Result, Ok, Bool, ◌==◌, ◌||◌, ◌&&◌, not, nat_lt, nat_le, if◌then◌else◌}
use Rattle.fx_fixed.specs.Chain.{◌>>=◌, refuse, wanted}
use Rattle.fx_sfnt.specs.Fields.{field, signed_field}
use Rattle.fx_sfnt.specs.Units.{units_per_em_of}
use Rattle.fx_sfnt.specs.Collections.{FontFileView, directory_offset_of}
use Rattle.fx_sfnt.specs.declared.fault.FontFault.{FontFault}
use Rattle.fx_sfnt.specs.declared.fault.FontFault.TheVariants.{NotTrueType, TableMissing, TableShort, BadHead, BadMaxp}
use Rattle.fx_sfnt.specs.declared.records.Head.{Head}
use Rattle.fx_sfnt.specs.declared.records.LocFormat.{LocFormat}
use Rattle.fx_sfnt.specs.declared.records.LocFormat.TheVariants.{Short, Long}
use Rattle.fx_sfnt.specs.declared.records.Maxp.{Maxp}
use Rattle.fx_sfnt.specs.declared.records.Hhea.{Hhea}

-- the first n records, of `size` bytes each, of a list of bytes, each with what follows it
abbrev pub records : ℕ → ℕ → List ℕ → List (List ℕ)
records size zero bytes = []
records size (suc n) bytes = bytes ∷ records size n (drop size bytes)

-- a file from its directory on: the directory has a version that is read, 1.0 or `true`, and its records lie in the file
abbrev pub is_directory : List ℕ → Bool
is_directory directory =
    nat_le 12 (length directory) && (field 4 directory 0 == 0x00010000 || field 4 directory 0 == 0x74727565) &&
    nat_le (12 + 16 * field 2 directory 4) (length directory)

-- a table record (tag, checksum, offset, length) has the tag
abbrev pub has_tag : List ℕ → List ℕ → Bool
has_tag tag entry = field 4 entry 0 == field 4 tag 0

-- the bytes of a table record's table: from its offset, for its length, ended at the file's end
abbrev pub table_bytes : List ℕ → List ℕ → List ℕ
table_bytes file entry = take (field 4 entry 12) (drop (field 4 entry 8) file)

-- the table of a tag in a file: that of the first record of the directory with the tag
abbrev pub table_of : List ℕ → List ℕ → List ℕ → Option (List ℕ)
table_of file directory tag =
    option_map (table_bytes file) (find (has_tag tag) (records 16 (field 2 directory 4) (drop 12 directory)))

-- a table that is required
abbrev pub required_table_of : List ℕ → List ℕ → List ℕ → Result (List ℕ) FontFault
required_table_of file directory tag = wanted (table_of file directory tag) (TableMissing tag)

-- the format of `loca`, by its number
abbrev pub loc_format_of : ℕ → Option LocFormat
loc_format_of n = if n == 0 then Some Short else if n == 1 then Some Long else None

-- the fields of `head`
unfoldable pub head_of : List ℕ → Result Head FontFault
head_of table = do
  _ ← refuse (nat_lt (length table) 54) (TableShort (codes "head"))
  _ ← refuse (not (field 4 table 12 == 0x5F0F3CF5)) BadHead
  units_per_em ← wanted (units_per_em_of (field 2 table 18)) BadHead
  index_to_loc_format ← wanted (loc_format_of (field 2 table 50)) BadHead
  Ok (record { units_per_em = units_per_em; index_to_loc_format = index_to_loc_format })

-- the fields of `maxp`
unfoldable pub maxp_of : List ℕ → Result Maxp FontFault
maxp_of table = do
  _ ← refuse (nat_lt (length table) 32) (TableShort (codes "maxp"))
  _ ← refuse (not (field 4 table 0 == 0x00010000)) BadMaxp
  _ ← refuse (field 2 table 4 == 0) BadMaxp
  Ok (record {
    num_glyphs = field 2 table 4;
    max_twilight_points = field 2 table 16;
    max_storage = field 2 table 18;
    max_function_defs = field 2 table 20;
    max_stack_elements = field 2 table 24;
  })

-- the fields of `hhea`
unfoldable pub hhea_of : List ℕ → Result Hhea FontFault
hhea_of table = do
  _ ← refuse (nat_lt (length table) 36) (TableShort (codes "hhea"))
  Ok (record { ascender = signed_field table 4; descender = signed_field table 6; number_of_h_metrics = field 2 table 34 })

-- the fields of these tables; `hmtx` has the pairs that `hhea` counts
unfoldable pub fields_of : List ℕ → List ℕ → List ℕ → List ℕ → Result (Head × Maxp × Hhea) FontFault
fields_of head maxp hhea hmtx = do
  head ← head_of head
  maxp ← maxp_of maxp
  hhea ← hhea_of hhea
  _ ← refuse (hhea.number_of_h_metrics == 0 || nat_lt (length hmtx) (4 * hhea.number_of_h_metrics)) (TableShort (codes "hmtx"))
  Ok (head, maxp, hhea)

-- what a font is seen as: its file, the file from the face's directory on, and the fields of its tables
pub record Face : Type 0 where
  pub file : List ℕ
  pub directory : List ℕ
  pub head : Head
  pub maxp : Maxp
  pub hhea : Hhea

-- the table of a tag in a font; crates above know a font's tables by this alone
abbrev pub table_in : Face → List ℕ → Option (List ℕ)
table_in face tag = table_of face.file face.directory tag

-- the table of a tag that may be absent, and is then empty
abbrev pub table_or_empty : Face → List ℕ → List ℕ
table_or_empty face tag = unwrap_or (table_in face tag) []

-- the face of a file whose directory begins here, or the first fault
unfoldable pub face_at : List ℕ → List ℕ → Result Face FontFault
face_at file directory = do
  _ ← refuse (not (is_directory directory)) NotTrueType
  head ← required_table_of file directory (codes "head")
  maxp ← required_table_of file directory (codes "maxp")
  hhea ← required_table_of file directory (codes "hhea")
  hmtx ← required_table_of file directory (codes "hmtx")
  _ ← required_table_of file directory (codes "loca")
  _ ← required_table_of file directory (codes "glyf")
  fields ← fields_of head maxp hhea hmtx
  Ok (record { file = file; directory = directory; head = fields.0; maxp = fields.1; hhea = fields.2 })

-- the face that is meant of a font file, or the first fault
unfoldable pub font_of : FontFileView → Result Face FontFault
font_of file = do
  at ← directory_offset_of file
  face_at file.bytes (drop at file.bytes)
