-- The faces of a font file, of which a collection has many.
-- OpenType, "Font Collections" (TTC Header, versions 1.0 and 2.0).
use Rattle.std.specs.Prelude.{ℕ, ◌+◌, ◌*◌, List, length, Result, Ok, Bool, ◌==◌, ◌||◌, ◌&&◌, not, nat_le, if◌then◌else◌}
use Rattle.fx_fixed.specs.Chain.{◌>>=◌, refuse}
use Rattle.fx_sfnt.specs.Fields.{field}
use Rattle.fx_sfnt.specs.declared.fault.FontFault.{FontFault}
use Rattle.fx_sfnt.specs.declared.fault.FontFault.TheVariants.{NotTrueType, NoFace}

-- the bytes of a font file, and which of its faces is meant, counted from 0
pub record FontFileView : Type 0 where
  pub bytes : List ℕ
  pub face : ℕ

-- a face of a file
abbrev pub face_in : List ℕ → ℕ → FontFileView
face_in bytes face = record { bytes = bytes; face = face }

-- ttcTag is `ttcf`
abbrev pub is_collection : List ℕ → Bool
is_collection bytes = nat_le 4 (length bytes) && field 4 bytes 0 == 0x74746366

-- majorVersion and minorVersion are 1 and 0, or 2 and 0, and the file includes numFonts tableDirectoryOffsets
abbrev pub is_collection_header : List ℕ → Bool
is_collection_header bytes =
    nat_le 12 (length bytes) && (field 4 bytes 4 == 0x00010000 || field 4 bytes 4 == 0x00020000) &&
    nat_le (12 + 4 * field 4 bytes 8) (length bytes)

-- where a face's directory begins in a collection: its tableDirectoryOffset, from the beginning of the file
unfoldable pub collection_offset_of : List ℕ → ℕ → Result ℕ FontFault
collection_offset_of bytes face = do
  _ ← refuse (not (is_collection_header bytes)) NotTrueType
  _ ← refuse (nat_le (field 4 bytes 8) face) NoFace
  Ok (field 4 bytes (12 + 4 * face))

-- and in a file that is no collection, which has face 0 alone
unfoldable pub only_offset_of : ℕ → Result ℕ FontFault
only_offset_of face = do
  _ ← refuse (not (face == 0)) NoFace
  Ok 0

-- where a face's directory begins in its file, or the first fault
unfoldable pub directory_offset_of : FontFileView → Result ℕ FontFault
directory_offset_of file =
    if is_collection file.bytes then collection_offset_of file.bytes file.face else only_offset_of file.face

-- how many faces a collection has: its numFonts
unfoldable pub collection_count_of : List ℕ → Result ℕ FontFault
collection_count_of bytes = do
  _ ← refuse (not (is_collection_header bytes)) NotTrueType
  Ok (field 4 bytes 8)

-- how many faces a file has; one that is no collection has one
unfoldable pub face_count_of : List ℕ → Result ℕ FontFault
face_count_of bytes = if is_collection bytes then collection_count_of bytes else Ok 1
