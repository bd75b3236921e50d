-- The pixels of a glyph as bytes: a byte a pixel, or packed, eight pixels a byte.
use Rattle.std.specs.Prelude.{ℕ, ◌+◌, ◌*◌, ◌/◌, Bool, true, false, List, map, length, slice_index_or}
use Rattle.std.specs.List.{range_with_len}
use Rattle.fx_bdf.specs.Glyphs.{Glyph}
use Rattle.fx_bdf.specs.Text.{eight_pixels}

-- a pixel: 255 if it is set, 0 if not
abbrev pub pixel_of : Bool → ℕ
pixel_of true = 255
pixel_of false = 0

-- the bytes of a row of this width, packed or not
abbrev pub stride_of : Bool → ℕ → ℕ
stride_of true width = (width + 7) / 8
stride_of false width = width

-- byte k of a row, the leftmost pixel first; packed, the leftmost the highest bit, 0 past the row's end
abbrev pub row_byte : Bool → List Bool → ℕ → ℕ
row_byte true row k = eight_pixels row (8 * k)
row_byte false row k = pixel_of (slice_index_or row k false)

-- the bytes of a row
abbrev pub row_bytes : Bool → List Bool → List ℕ
row_bytes packed row = map (row_byte packed row) (range_with_len 0 (stride_of packed (length row)))

-- the bytes of a glyph
abbrev pub size_of : Bool → Glyph → ℕ
size_of packed g = g.box.height * stride_of packed g.box.width
