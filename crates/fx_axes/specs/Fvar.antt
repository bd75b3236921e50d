-- The axes of a font, and its named instances (OpenType, "fvar").
use Rattle.std.specs.Prelude.{ℕ, ◌+◌, ◌*◌, ℤ, List, length, codes, Result, Ok, Bool, ◌==◌, ◌||◌, ◌&&◌, not, nat_le, int_le}
use Rattle.std.specs.Int.{w32, cast_signed}
use Rattle.fx_fixed.specs.Chain.{◌>>=◌, refuse, wanted}
use Rattle.fx_sfnt.specs.Fields.{field}
use Rattle.fx_sfnt.specs.Tables.{Face, table_in}
use Rattle.fx_axes.specs.Sweeps.{all_from}
use Rattle.fx_axes.specs.declared.fault.AxesFault.{AxesFault}
use Rattle.fx_axes.specs.declared.fault.AxesFault.TheVariants.{NotVariable, BadFvar}
use Rattle.fx_axes.specs.declared.records.Axis.{Axis}
use Rattle.fx_axes.specs.declared.records.Extent.{Extent}

-- Fixed: a number in 16.16 at an offset
abbrev pub fixed_field : List ℕ → ℕ → ℤ
fixed_field bytes at = cast_signed w32 (field 4 bytes at)

-- the header: axisCount, axisSize, instanceCount, instanceSize
abbrev pub axis_count : List ℕ → ℕ
axis_count fvar = field 2 fvar 8

abbrev pub axis_size : List ℕ → ℕ
axis_size fvar = field 2 fvar 10

abbrev pub instance_count : List ℕ → ℕ
instance_count fvar = field 2 fvar 12

abbrev pub instance_size : List ℕ → ℕ
instance_size fvar = field 2 fvar 14

-- where the record of an axis begins, from axesArrayOffset on, and where that of an instance does, after all axes
abbrev pub axis_offset : List ℕ → ℕ → ℕ
axis_offset fvar k = field 2 fvar 4 + axis_size fvar * k

abbrev pub instance_offset : List ℕ → ℕ → ℕ
instance_offset fvar k = axis_offset fvar (axis_count fvar) + instance_size fvar * k

-- minValue, defaultValue, maxValue of the axis whose record begins at an offset
abbrev pub extent_at : List ℕ → ℕ → Extent
extent_at fvar at = record {
  min = fixed_field fvar (at + 4);
  default = fixed_field fvar (at + 8);
  max = fixed_field fvar
      (at + 12);
}

-- VariationAxisRecord: axisTag, minValue, defaultValue, maxValue, flags, axisNameID
abbrev pub axis_at : List ℕ → ℕ → Axis
axis_at fvar at = record {
  tag = field 4 fvar at;
  extent = extent_at fvar at;
  name = field 2 fvar (at + 18);
  flags = field 2 fvar (at + 16);
}

unfoldable pub axis_of : List ℕ → ℕ → Axis
axis_of fvar k = axis_at fvar (axis_offset fvar k)

-- InstanceRecord: subfamilyNameID, flags, and the coordinate of each axis
unfoldable pub instance_name_of : List ℕ → ℕ → ℕ
instance_name_of fvar k = field 2 fvar (instance_offset fvar k)

unfoldable pub instance_value_of : List ℕ → ℕ → ℕ → ℤ
instance_value_of fvar k axis = fixed_field fvar (instance_offset fvar k + (4 + 4 * axis))

-- an axis has a tag
abbrev pub has_tag : List ℕ → ℕ → ℕ → Bool
has_tag fvar tag k = (axis_of fvar k).tag == tag

-- the default is between the least and the greatest value
abbrev pub is_in_order : Axis → Bool
is_in_order a = int_le a.extent.min a.extent.default && int_le a.extent.default a.extent.max

abbrev pub is_ordered : List ℕ → ℕ → Bool
is_ordered fvar k = is_in_order (axis_of fvar k)

-- records have the size of what is read of them, and all lie in the table
unfoldable pub holds_records : List ℕ → Bool
holds_records fvar =
    nat_le 20 (axis_size fvar) && (nat_le (4 + 4 * axis_count fvar) (instance_size fvar) || instance_count fvar == 0) &&
    nat_le (instance_offset fvar (instance_count fvar)) (length fvar)

-- a table whose header is version 1.0, with its records
unfoldable pub is_fvar : List ℕ → Bool
is_fvar fvar =
    nat_le 16 (length fvar) && field 4 fvar 0 == 0x00010000 && holds_records fvar &&
    all_from (is_ordered fvar) 0 (axis_count fvar)

-- the bytes of `fvar`, or the first fault
unfoldable pub fvar_of : Face → Result (List ℕ) AxesFault
fvar_of face = do
  fvar ← wanted (table_in face (codes "fvar")) NotVariable
  _ ← refuse (not (is_fvar fvar)) BadFvar
  Ok fvar
