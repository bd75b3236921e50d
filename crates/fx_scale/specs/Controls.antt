-- Control values at a size (OpenType, `cvt `).
use Rattle.std.specs.Prelude.{ℕ, ℤ, ◌*◌, ◌/◌, List, length, map}
use Rattle.std.specs.List.{range_with_len}
use Rattle.fx_sfnt.specs.Fields.{signed_field}
use Rattle.fx_scale.specs.declared.scale.Scale.{Scale}
use Rattle.fx_scale.specs.Scaling.{scaled_by}

-- the control value of a number: an int16 entry, scaled
abbrev pub control_value : Scale → List ℕ → ℕ → ℤ
control_value s bytes k = scaled_by s (signed_field bytes (2 * k))

-- the control values of a table's bytes; a last odd byte is no entry
unfoldable pub control_values : Scale → List ℕ → List ℤ
control_values s bytes = map (control_value s bytes) (range_with_len 0 (length bytes / 2))
