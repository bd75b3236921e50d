-- Normalized coordinates (OpenType, "OpenType Font Variations Overview", "Coordinate scales and normalization").
use Rattle.std.specs.Prelude.{ℕ, ◌*◌, ℤ, pos, ◌+ℤ◌, ◌-ℤ◌, ◌*ℤ◌, int_lt, unsigned_abs, if◌then◌else◌}
use Rattle.fx_fixed.specs.Numbers.{near_size}
use Rattle.fx_axes.specs.Rounding.{near_up_of}
use Rattle.fx_axes.specs.declared.records.Extent.{Extent}
use Rattle.fx_axes.specs.declared.records.Mapping.{Mapping}

-- how far a value is from the default, as a part of how far the end on its side is: a numerator and a denominator
unfoldable pub part_of : Extent → ℤ → ℤ × ℕ
part_of a v =
    if int_lt v a.default then (v -ℤ a.default, unsigned_abs (a.default -ℤ a.min))
    else if int_lt a.default v then (v -ℤ a.default, unsigned_abs (a.max -ℤ a.default))
    else (pos 0, 1)

-- a part n / d in 2.14: the nearest number, halves up
abbrev pub straight : ℤ → ℕ → ℤ
straight n d = near_up_of (n *ℤ pos 16384) d

-- how far a part n / d is past -1, as a numerator over d
abbrev pub from_least : ℤ → ℕ → ℕ
from_least n d = unsigned_abs (n +ℤ pos d) * 16384

-- where a coordinate goes that is r / w of the way from a pair of `avar` to the next one, in 2.14: the nearest number, halves
-- up. `to`
-- does not fall from a pair to the next, and is whole, so that only what is added to it is rounded
unfoldable pub on_segment : ℕ → ℕ → Mapping → Mapping → ℤ
on_segment r w p q = p.to +ℤ pos (near_size (unsigned_abs (q.to -ℤ p.to) * r) w)
