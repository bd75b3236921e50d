-- Tuples in bytes: how many there are, the point numbers that they share, and where their headers and data begin.
-- OpenType, "OpenType Font Variations Common Table Formats", "Tuple variation store".
use Rattle.std.specs.Prelude.{ℕ, ◌+◌, ◌%◌, List, length, drop, Option, Some, None, Result, Ok, Bool, true, false, nat_lt}
use Rattle.fx_fixed.specs.Chain.{◌>>=◌, refuse}
use Rattle.fx_sfnt.specs.Fields.{field}
use Rattle.fx_glyf.specs.Words.{has}
use Rattle.fx_tuples.specs.declared.fault.TupleFault.{TupleFault}
use Rattle.fx_tuples.specs.declared.fault.TupleFault.TheVariants.{HeaderShort, DataShort}
use Rattle.fx_tuples.specs.Tuples.{PointNumbersView, point_numbers_of, TupleCursorView}

-- tuples in bytes: the point numbers that they share, how many they are, and where reading them begins
pub record TupleStoreView : Type 0 where
  pub numbers : Option PointNumbersView
  pub count : ℕ
  pub cursor : TupleCursorView

-- the point numbers that tuples share, at the front of their data, and the bytes after them
unfoldable pub shared_numbers_of : Bool → List ℕ → Result (Option PointNumbersView × List ℕ) TupleFault
shared_numbers_of false bytes = Ok (None, bytes)
shared_numbers_of true bytes = do
  n ← point_numbers_of bytes
  Ok (Some n.0, n.1)

-- tupleVariationCount, at an offset: its low twelve bits count tuples, and bit 15 says that they share point numbers
-- (SHARED_POINT_NUMBERS). dataOffset: where their data begin. Then come the headers
unfoldable pub store_of : List ℕ → ℕ → Result TupleStoreView TupleFault
store_of bytes at = do
  _ ← refuse (nat_lt (length bytes) (at + 4)) HeaderShort
  _ ← refuse (nat_lt (length bytes) (field 2 bytes (at + 2))) DataShort
  n ← shared_numbers_of (has (field 2 bytes at) 0x8000) (drop (field 2 bytes (at + 2)) bytes)
  Ok (record {
    numbers = n.0;
    count = field 2 bytes at % 4096;
    cursor = record { headers = drop (at + 4) bytes; bytes = n.1 };
  })
