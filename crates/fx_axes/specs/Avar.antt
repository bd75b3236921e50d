-- Where normalized coordinates go (OpenType, "avar").
use Rattle.std.specs.Prelude.{◌≡◌, ℕ, zero, suc, ◌+◌, ◌-◌, ◌*◌, ℤ, pos, negsuc, ◌-ℤ◌, unsigned_abs, int_lt, int_le, List, length}
use Rattle.std.specs.Prelude.{drop}
use Rattle.std.specs.Prelude.{Option, Some, None, Result, Ok, Bool, true, false, ◌==◌, ◌||◌, ◌&&◌, not, nat_le, if◌then◌else◌}
use Rattle.std.specs.Ordering.{int_eq}
use Rattle.fx_fixed.specs.Chain.{◌>>=◌, refuse}
use Rattle.fx_sfnt.specs.Fields.{field, signed_field}
use Rattle.fx_axes.specs.Coordinates.{from_least, on_segment, straight}
use Rattle.fx_axes.specs.declared.fault.AxesFault.{AxesFault}
use Rattle.fx_axes.specs.declared.fault.AxesFault.TheVariants.{BadAvar}
use Rattle.fx_axes.specs.declared.records.Mapping.{Mapping}

-- AxisValueMap (fromCoordinate, toCoordinate) at the front of bytes
unfoldable pub mapping_of : List ℕ → Mapping
mapping_of bytes = record { from = signed_field bytes 0; to = signed_field bytes 2 }

-- -1 and 1 in 2.14
abbrev pub least : ℤ
least = negsuc 16383

abbrev pub greatest : ℤ
greatest = pos 16384

-- a coordinate that goes where it is
abbrev pub fixed : ℤ → Mapping
fixed c = record { from = c; to = c }

abbrev pub is_same : Mapping → Mapping → Bool
is_same a p = int_eq p.from a.from && int_eq p.to a.to

-- of two neighbours the second is after the first, does not go before where that goes, and both of its coordinates are at most 1
abbrev pub is_step : Mapping → Mapping → Bool
is_step p q = (int_lt p.from q.from && int_le p.to q.to) && (int_le q.from greatest && int_le q.to greatest)

-- so are the neighbours of the first n + 1 pairs
unfoldable pub are_steps : ℕ → List ℕ → Bool
are_steps zero pairs = true
are_steps (suc n) pairs = if is_step (mapping_of pairs) (mapping_of (drop 4 pairs)) then are_steps n (drop 4 pairs) else false

-- one of the first n pairs is this one
unfoldable pub has_pair : Mapping → ℕ → List ℕ → Bool
has_pair a zero pairs = false
has_pair a (suc n) pairs = if is_same a (mapping_of pairs) then true else has_pair a n (drop 4 pairs)

-- n pairs are a map: there is none, or they rise from (-1, -1) on, and include (0, 0) and (1, 1)
unfoldable pub are_pairs : ℕ → List ℕ → Bool
are_pairs n pairs =
    n == 0 || (is_same (fixed least) (mapping_of pairs) && are_steps (n - 1) pairs && has_pair (fixed (pos 0)) n pairs &&
    has_pair (fixed greatest) n pairs)

-- SegmentMaps (positionMapCount, axisValueMaps): its bytes
abbrev pub map_size : List ℕ → ℕ
map_size bytes = 2 + 4 * field 2 bytes 0

-- a whole map at the front of bytes
unfoldable pub is_map : List ℕ → Bool
is_map bytes = nat_le 2 (length bytes) && nat_le (map_size bytes) (length bytes) && are_pairs (field 2 bytes 0) (drop 2 bytes)

-- n maps, one after the other
unfoldable pub are_maps : ℕ → List ℕ → Bool
are_maps zero bytes = true
are_maps (suc n) bytes = if is_map bytes then are_maps n (drop (map_size bytes) bytes) else false

-- the same of a font that may have none
abbrev pub AreMaps : ℕ → Option (List ℕ) → Type 0
AreMaps n None = Unit {0}
AreMaps n (Some bytes) = are_maps n bytes ≡ true

abbrev pub IsMap : Option (List ℕ) → Type 0
IsMap None = Unit {0}
IsMap (Some bytes) = is_map bytes ≡ true

-- a table of version 1.0 with a map for each axis
unfoldable pub is_avar : ℕ → List ℕ → Bool
is_avar axes avar =
    nat_le 8 (length avar) && field 4 avar 0 == 0x00010000 && field 2 avar 6 == axes && are_maps axes (drop 8 avar)

-- the maps of a font by its number of axes, if it has any, or the fault
abbrev pub maps_in : ℕ → Option (List ℕ) → Result (Option (List ℕ)) AxesFault
maps_in axes None = Ok None
maps_in axes (Some avar) = do
  _ ← refuse (not (is_avar axes avar)) BadAvar
  Ok (Some (drop 8 avar))

-- how far two pairs are apart in what they map, as a numerator over d
abbrev pub gap_of : ℕ → Mapping → Mapping → ℕ
gap_of d p q = d * unsigned_abs (q.from -ℤ p.from)

-- where a coordinate goes that is r / d past the first of n + 1 pairs: straight between the first two pairs that it lies between
unfoldable pub mapped_of : ℕ → ℕ → ℕ → List ℕ → ℤ
mapped_of d r zero pairs = (mapping_of pairs).to
mapped_of d r (suc n) pairs =
    let gap = gap_of d (mapping_of pairs) (mapping_of (drop 4 pairs)) in
    if nat_le r gap then on_segment r gap (mapping_of pairs) (mapping_of (drop 4 pairs)) else mapped_of d (r - gap) n
    (drop 4 pairs)

-- where a part n / d goes by the map at the front of bytes; an empty map leaves it where it is
unfoldable pub mapped_by : ℤ → ℕ → List ℕ → ℤ
mapped_by n d bytes =
    if field 2 bytes 0 == 0 then straight n d else mapped_of d (from_least n d) (field 2 bytes 0 - 1) (drop 2 bytes)
