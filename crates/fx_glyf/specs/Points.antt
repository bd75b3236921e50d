-- Reading the flags and the coordinates of a simple glyph (OpenType, `glyf`, simple glyph table).
use Rattle.std.specs.Prelude.{ℕ, zero, suc, ◌+◌, ◌-◌, ◌%◌, List, [], ◌∷◌, length, drop, Option, Some, None, option_and_then, Bool}
use Rattle.std.specs.Prelude.{true, false, nat_lt, if◌then◌else◌}
use Rattle.std.specs.Int.{w16, cast_signed}
use Rattle.byteorder.specs.Endian.{big_number}
use Rattle.fx_glyf.specs.Words.{has, with_front, list_in}
use Rattle.fx_glyf.specs.declared.point.GlyphPoint.{GlyphPoint}

-- The masks of a point's flag.
abbrev pub on_curve_point : ℕ
on_curve_point = 0x01

abbrev pub x_short_vector : ℕ
x_short_vector = 0x02

abbrev pub y_short_vector : ℕ
y_short_vector = 0x04

abbrev pub repeat_flag : ℕ
repeat_flag = 0x08

abbrev pub x_is_same_or_positive_x_short_vector : ℕ
x_is_same_or_positive_x_short_vector = 0x10

abbrev pub y_is_same_or_positive_y_short_vector : ℕ
y_is_same_or_positive_y_short_vector = 0x20

-- the state of reading flags: the number of further points with the flag before, that flag, and the bytes that follow
pub record Cursor : Type 0 where
  pub again : ℕ
  pub flag : ℕ
  pub bytes : List ℕ

-- the flag of the next point, with what is left after it
unfoldable pub next_flag : Cursor → Option Cursor
next_flag c = from_again c.again c.flag c.bytes where
  from_again : ℕ → ℕ → List ℕ → Option Cursor
  from_again (suc again) flag bytes = Some (record { again = again; flag = flag; bytes = bytes })
  from_again zero flag [] = None
  from_again zero flag (f ∷ []) = if has f repeat_flag then None else Some (record { again = 0; flag = f; bytes = [] })
  from_again zero flag (f ∷ r ∷ bytes) = if has f repeat_flag then Some (record { again = r; flag = f; bytes = bytes }) else Some
      (record { again = 0; flag = f; bytes = r ∷ bytes })

-- the flags of `left` points, and the bytes after them
unfoldable pub flags_from : ℕ → Cursor → Option (List ℕ × List ℕ)
flags_from zero c = Some ([], c.bytes)
flags_from (suc left) c = option_and_then (λ d. with_front d.flag (flags_from left d)) (next_flag c)

-- before the first flag
abbrev pub start : List ℕ → Cursor
start bytes = record { again = 0; flag = 0; bytes = bytes }

-- a delta, modulo 2 ^ 16, and the bytes after it: whether its flag says short, and whether it says same (or, of a short one,
-- positive)
unfoldable pub delta_by : Bool → Bool → List ℕ → Option (ℕ × List ℕ)
delta_by true same [] = None
delta_by true same (b ∷ rest) = Some (if same then b else (65536 - b) % 65536, rest)
delta_by false true bytes = Some (0, bytes)
delta_by false false bytes = if nat_lt (length bytes) 2 then None else Some (big_number 2 bytes, drop 2 bytes)

-- the delta of a point with this flag, and the bytes after it; short and same are the masks of the coordinate
abbrev pub delta_of : ℕ → ℕ → ℕ → List ℕ → Option (ℕ × List ℕ)
delta_of short same flag bytes = delta_by (has flag short) (has flag same) bytes

-- the deltas of points with these flags, and the bytes after them
unfoldable pub deltas_from : ℕ → ℕ → List ℕ → List ℕ → Option (List ℕ × List ℕ)
deltas_from short same [] bytes = Some ([], bytes)
deltas_from short same (f ∷ fs) bytes =
    option_and_then (λ d. with_front d.0 (deltas_from short same fs d.1)) (delta_of short same f bytes)

-- a point at coordinates modulo 2 ^ 16, which are signed
unfoldable pub point_at : ℕ → ℕ → ℕ → GlyphPoint
point_at x y flag = record { x = cast_signed w16 x; y = cast_signed w16 y; on_curve = has flag on_curve_point }

-- the points: each coordinate is the one before it and its delta, modulo 2 ^ 16
unfoldable pub points_of : List ℕ → List ℕ → List ℕ → ℕ → ℕ → List GlyphPoint
points_of (f ∷ fs) (dx ∷ dxs) (dy ∷ dys) x y =
    point_at ((x + dx) % 65536) ((y + dy) % 65536) f ∷ points_of fs dxs dys ((x + dx) % 65536) ((y + dy) % 65536)
points_of _ _ _ x y = []

-- the points of flags and deltas in bytes, after a point at x and y
abbrev pub points_seen : List ℕ → List ℕ → List ℕ → ℕ → ℕ → List GlyphPoint
points_seen fs xs ys x y =
    points_of fs (list_in (deltas_from x_short_vector x_is_same_or_positive_x_short_vector fs xs))
    (list_in (deltas_from y_short_vector y_is_same_or_positive_y_short_vector fs ys)) x y

-- `count` points at the front of bytes: flags, x deltas, y deltas
unfoldable pub glyph_points_of : ℕ → List ℕ → Option (List GlyphPoint)
glyph_points_of count bytes =
    option_and_then (λ fs. option_and_then (λ xs. option_and_then (λ ys. Some (points_of fs.0 xs.0 ys.0 0 0))
    (deltas_from y_short_vector y_is_same_or_positive_y_short_vector fs.0 xs.1))
    (deltas_from x_short_vector x_is_same_or_positive_x_short_vector fs.0 fs.1)) (flags_from count (start bytes))
