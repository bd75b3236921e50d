-- The header of a tuple (OpenType, "OpenType Font Variations Common Table Formats", "TupleVariationHeader").
use Rattle.std.specs.Prelude.{◌≤◌, IsTrue}
use Rattle.std.specs.Prelude.{ℕ, ◌+◌, ◌*◌, ◌%◌, List, length, take, drop, Option, Some, None, Bool, nat_lt}
use Rattle.std.specs.Prelude.{if◌then◌else◌, option_and_then}
use Rattle.fx_sfnt.specs.Fields.{field}
use Rattle.fx_glyf.specs.Words.{has}

-- a header: how many bytes its tuple's points and deltas take, whether these begin with points of its own, its region, and the
-- bytes after it
pub record HeaderView : Type 0 where
  pub size : ℕ
  pub is_private : Bool
  pub is_intermediate : Bool
  pub peaks : List ℕ
  pub starts : List ℕ
  pub ends : List ℕ
  pub rest : List ℕ

-- the bytes of a header's own peak, and of its begin and end, each as many as a coordinate of each axis takes
abbrev pub own_size : ℕ → ℕ → ℕ
own_size width index = if has index 0x8000 then width else 0

abbrev pub between_size : ℕ → ℕ → ℕ
between_size width index = if has index 0x4000 then 2 * width else 0

-- the peaks: those after the header's two numbers, or those of a tuple that several share, by its number
unfoldable pub peaks_of : List ℕ → ℕ → ℕ → List ℕ → Option (List ℕ)
peaks_of shared width index bytes =
    if has index 0x8000 then Some (take width (drop 4 bytes))
    else if nat_lt (length shared) (width * (index % 4096) + width) then None
    else Some (take width (drop (width * (index % 4096)) shared))

-- a header of an index with these peaks
abbrev pub with_peaks : ℕ → ℕ → List ℕ → List ℕ → HeaderView
with_peaks width index bytes peaks = record {
  size = field 2 bytes 0;
  is_private = has index 0x2000;
  is_intermediate = has index 0x4000;
  peaks = peaks;
  starts = take width (drop (4 + own_size width index) bytes);
  ends = take width (drop (4 + own_size width index + width) bytes);
  rest = drop (4 + own_size width index + between_size width index) bytes;
}

-- the header at the front of bytes; `width` is two bytes for each axis
unfoldable pub header_of : List ℕ → ℕ → List ℕ → Option HeaderView
header_of shared width bytes =
    if nat_lt (length bytes) 4 then None
    else if nat_lt (length bytes) (4 + own_size width (field 2 bytes 2) + between_size width (field 2 bytes 2)) then None
    else option_and_then (λ peaks. Some (with_peaks width (field 2 bytes 2) bytes peaks)) (peaks_of shared width
    (field 2 bytes 2) bytes)

-- a header has a coordinate for each axis
pub record HasRegion (width : ℕ) (h : HeaderView) : Type 0 where
  pub peaks : width ≤ length h.peaks
  pub starts : IsTrue h.is_intermediate → width ≤ length h.starts
  pub ends : IsTrue h.is_intermediate → width ≤ length h.ends
