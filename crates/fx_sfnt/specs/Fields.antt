-- Big-endian numbers at an offset of a list of bytes.
-- OpenType, "Data types": uint16, int16, uint32, Offset32.
use Rattle.std.specs.Prelude.{ℕ, ◌+◌, ℤ, List, length, drop, Option, Some, None, option_map, nat_le, if◌then◌else◌}
use Rattle.std.specs.Int.{cast_signed, w16}
use Rattle.byteorder.specs.Endian.{big_number}

-- the number of n bytes at an offset; all of them are inside
unfoldable pub field : ℕ → List ℕ → ℕ → ℕ
field n bytes at = big_number n (drop at bytes)

-- the number of n bytes at an offset, if all of them are inside
abbrev pub number_at : ℕ → List ℕ → ℕ → Option ℕ
number_at n bytes at = if nat_le (at + n) (length bytes) then Some (field n bytes at) else None

-- int16: a number of two bytes, in two's complement
abbrev pub signed : ℕ → ℤ
signed number = cast_signed w16 number

-- the int16 at an offset; it is inside
abbrev pub signed_field : List ℕ → ℕ → ℤ
signed_field bytes at = signed (field 2 bytes at)

-- the int16 at an offset, if it is inside
abbrev pub signed_at : List ℕ → ℕ → Option ℤ
signed_at bytes at = option_map signed (number_at 2 bytes at)
