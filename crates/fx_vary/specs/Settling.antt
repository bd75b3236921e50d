-- A coordinate of an instance: a whole number of FUnits (OpenType, "gvar").
use Rattle.std.specs.Prelude.{◌^◌, ℤ, pos, negsuc, ◌+ℤ◌, int_le, Bool, ◌&&◌, Option, Some, None, if◌then◌else◌}
use Rattle.fx_axes.specs.Rounding.{near_up_of}

-- how far a sum in 1 / 2 ^ 58 moves a coordinate: the nearest number, halves up
abbrev pub whole_move : ℤ → ℤ
whole_move sum = near_up_of sum (2 ^ 58)

-- a number of 16 bits
abbrev pub has_16_bits : ℤ → Bool
has_16_bits v = int_le (negsuc 32767) v && int_le v (pos 32767)

-- a coordinate and what its tuples add, if that has 16 bits
unfoldable pub settled : ℤ → ℤ → Option ℤ
settled at sum = if has_16_bits (at +ℤ whole_move sum) then Some (at +ℤ whole_move sum) else None
