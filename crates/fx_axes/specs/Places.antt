-- The place of an instance: a normalized coordinate for each axis (OpenType, "OpenType Font Variations Overview").
use Rattle.std.specs.Prelude.{ℕ, zero, suc, ℤ, List, [], ◌∷◌, ◌++◌, drop, codes, Option, Some, None, option_map, Result, Ok, Bool}
use Rattle.std.specs.Prelude.{◌==◌, ◌≤◌, unsigned_abs}
use Rattle.std.specs.Prelude.{◌&&◌, not, int_le, if◌then◌else◌}
use Rattle.std.specs.List.{list_any}
use Rattle.fx_fixed.specs.Chain.{◌>>=◌, refuse}
use Rattle.fx_sfnt.specs.Tables.{Face, table_in}
use Rattle.fx_axes.specs.Sweeps.{any_from}
use Rattle.fx_axes.specs.Fvar.{axis_count, axis_of, has_tag, fvar_of}
use Rattle.fx_axes.specs.Coordinates.{part_of, straight}
use Rattle.fx_axes.specs.Avar.{map_size, mapped_by, maps_in}
use Rattle.fx_axes.specs.declared.fault.AxesFault.{AxesFault}
use Rattle.fx_axes.specs.declared.fault.AxesFault.TheVariants.{UnknownAxis, RepeatedAxis, OutOfRange}
use Rattle.fx_axes.specs.declared.records.Extent.{Extent}
use Rattle.fx_axes.specs.declared.records.Axis.{Axis}
use Rattle.fx_axes.specs.declared.records.AxisValue.{AxisValue}

-- the axes of a font: the bytes of `fvar`, and the maps of `avar` if it has that table
pub record AxesView : Type 0 where
  pub fvar : List ℕ
  pub maps : Option (List ℕ)

-- the axes of a font, or the first fault of its tables
unfoldable pub axes_of : Face → Result AxesView AxesFault
axes_of face = do
  fvar ← fvar_of face
  maps ← maps_in (axis_count fvar) (table_in face (codes "avar"))
  Ok (record { fvar = fvar; maps = maps })

-- a value has the tag
abbrev pub is_of : ℕ → AxisValue → Bool
is_of tag v = v.tag == tag

-- the tag of a value is that of an axis, and of none of the values before it
unfoldable pub check_value : List ℕ → List AxisValue → AxisValue → Result (Unit {0}) AxesFault
check_value fvar before v = do
  _ ← refuse (not (any_from (has_tag fvar v.tag) 0 (axis_count fvar))) (UnknownAxis v.tag)
  _ ← refuse (list_any (is_of v.tag) before) (RepeatedAxis v.tag)
  Ok tt

-- each value in order
unfoldable pub check_values : List ℕ → List AxisValue → List AxisValue → Result (Unit {0}) AxesFault
check_values fvar before [] = Ok tt
check_values fvar before (v ∷ values) = do
  _ ← check_value fvar before v
  check_values fvar (before ++ v ∷ []) values

-- the value of an axis: that given for its tag, else its default
unfoldable pub value_of : Axis → List AxisValue → ℤ
value_of a [] = a.extent.default
value_of a (v ∷ values) = if v.tag == a.tag then v.value else value_of a values

-- a value is not below the least and not above the greatest one of an axis
abbrev pub lies_in : Extent → ℤ → Bool
lies_in a v = int_le a.min v && int_le v a.max

-- a normalized coordinate is within -1 and 1
abbrev pub IsNormalized : ℤ → Type 0
IsNormalized c = unsigned_abs c ≤ 16384

-- the normalized coordinate of a value, in 2.14, by the axis's map at the front of the maps, if there are any
unfoldable pub coordinate_by : Option (List ℕ) → Extent → ℤ → ℤ
coordinate_by None a v = straight (part_of a v).0 (part_of a v).1
coordinate_by (Some maps) a v = mapped_by (part_of a v).0 (part_of a v).1 maps

-- the coordinate of an axis
unfoldable pub coordinate_of : List AxisValue → Option (List ℕ) → Axis → Result ℤ AxesFault
coordinate_of values maps a = do
  _ ← refuse (not (lies_in a.extent (value_of a values))) (OutOfRange a.tag)
  Ok (coordinate_by maps a.extent (value_of a values))

-- the maps of the axes after the first
abbrev pub maps_after : Option (List ℕ) → Option (List ℕ)
maps_after maps = option_map (λ m. drop (map_size m) m) maps

-- the coordinates of the n axes from k on, whose maps are these
unfoldable pub coordinates_from : List ℕ → List AxisValue → Option (List ℕ) → ℕ → ℕ → Result (List ℤ) AxesFault
coordinates_from fvar values maps k zero = Ok []
coordinates_from fvar values maps k (suc n) = do
  c ← coordinate_of values maps (axis_of fvar k)
  cs ← coordinates_from fvar values (maps_after maps) (suc k) n
  Ok (c ∷ cs)

-- the place of values: first their tags are checked, then each axis has a coordinate
unfoldable pub place_of : AxesView → List AxisValue → Result (List ℤ) AxesFault
place_of axes values = do
  _ ← check_values axes.fvar [] values
  coordinates_from axes.fvar values axes.maps 0 (axis_count axes.fvar)
