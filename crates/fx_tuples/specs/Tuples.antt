-- A tuple: how far it counts at a place, the points that it names, and the bytes of its deltas.
-- OpenType, "OpenType Font Variations Common Table Formats", "Tuple variation store".
use Rattle.std.specs.Prelude.{ℕ, ◌*◌, ℤ, List, [], length, take, drop, nat_lt, Option, Some, None, Result, Ok, Bool, true, false}
use Rattle.std.specs.Prelude.{◌==◌, if◌then◌else◌}
use Rattle.fx_fixed.specs.Chain.{◌>>=◌, refuse, wanted}
use Rattle.fx_tuples.specs.declared.fault.TupleFault.{TupleFault}
use Rattle.fx_tuples.specs.declared.fault.TupleFault.TheVariants.{HeaderShort, DataShort, NumbersShort}
use Rattle.fx_tuples.specs.Regions.{scalar_of, tent_of}
use Rattle.fx_tuples.specs.Numbers.{count_of, numbers_from, start}
use Rattle.fx_tuples.specs.Headers.{HeaderView, header_of}

-- point numbers: how many there are, and which; a count of 0 stands for all points
pub record PointNumbersView : Type 0 where
  pub count : ℕ
  pub list : List ℕ

-- the point numbers at the front of bytes, and the bytes after them
unfoldable pub point_numbers_of : List ℕ → Result (PointNumbersView × List ℕ) TupleFault
point_numbers_of bytes = do
  c ← wanted (count_of bytes) NumbersShort
  r ← wanted (numbers_from c.0 (start c.1)) NumbersShort
  Ok (record { count = c.0; list = r.0 }, r.1)

-- a tuple; one without numbers has no effect
pub record TupleView : Type 0 where
  pub scalar : ℕ
  pub numbers : Option PointNumbersView
  pub deltas : List ℕ

-- how far a tuple counts at a place, in 1 / 2 ^ 42
unfoldable pub scalar_at : List ℤ → HeaderView → ℕ
scalar_at place h = scalar_of (tent_of h.is_intermediate h.peaks h.starts h.ends) place (length place)

-- the tuple of data: its own point numbers, else those that tuples share
unfoldable pub tuple_by : Bool → Option PointNumbersView → ℕ → List ℕ → Result TupleView TupleFault
tuple_by false shared scalar bytes = Ok (record { scalar = scalar; numbers = shared; deltas = bytes })
tuple_by true shared scalar bytes = do
  n ← point_numbers_of bytes
  Ok (record { scalar = scalar; numbers = Some n.0; deltas = n.1 })

-- a tuple that does not count at the place is not read further
unfoldable pub tuple_of : List ℤ → Option PointNumbersView → HeaderView → List ℕ → Result TupleView TupleFault
tuple_of place shared h bytes =
    if scalar_at place h == 0 then Ok (record { scalar = 0; numbers = None; deltas = [] })
    else tuple_by h.is_private shared (scalar_at place h) bytes

-- ---- the tuples of bytes, in order

-- what tuples are read with: the tuples that a font shares, and the place
pub record TupleSettingView : Type 0 where
  pub shared : List ℕ
  pub place : List ℤ

-- where reading tuples stands: the headers and the data that are left
pub record TupleCursorView : Type 0 where
  pub headers : List ℕ
  pub bytes : List ℕ

-- the next tuple: its header, then its data, which are as many bytes as the header says
unfoldable pub next_tuple : TupleSettingView → Option PointNumbersView → TupleCursorView
    → Result (TupleView × TupleCursorView) TupleFault
next_tuple s numbers c = do
  h ← wanted (header_of s.shared (2 * length s.place) c.headers) HeaderShort
  _ ← refuse (nat_lt (length c.bytes) h.size) DataShort
  t ← tuple_of s.place numbers h (take h.size c.bytes)
  Ok (t, record { headers = h.rest; bytes = drop h.size c.bytes })
