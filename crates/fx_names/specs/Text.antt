-- A string of 16-bit code units, as UTF-8.
-- OpenType, "name", "Name records": strings of platforms 0 and 3 are UTF-16BE. The Unicode Standard, 3.9, "UTF-16" and "UTF-8".
use Rattle.std.specs.Prelude.{ℕ, zero, suc, ◌/◌, List, [], ◌∷◌, length, drop, encode_utf8_all}
use Rattle.std.specs.Char.Utf16.{utf16_lossy_chars}
use Rattle.fx_sfnt.specs.Fields.{field}

-- the first n code units of a list of bytes, big-endian
abbrev pub units : ℕ → List ℕ → List ℕ
units zero bytes = []
units (suc n) bytes = field 2 bytes 0 ∷ units n (drop 2 bytes)

-- the characters of UTF-16BE, with U+FFFD for each surrogate that has no partner
unfoldable pub chars_of : List ℕ → List ℕ
chars_of bytes = utf16_lossy_chars (units (length bytes / 2) bytes)

-- the same characters as UTF-8
abbrev pub utf8_of : List ℕ → List ℕ
utf8_of bytes = encode_utf8_all (chars_of bytes)
