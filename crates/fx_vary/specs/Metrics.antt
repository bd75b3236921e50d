-- The origin and the advance of a glyph at a place, by its phantom points (OpenType, "gvar", "Phantom points").
use Rattle.std.specs.Prelude.{ℕ, ◌^◌, ℤ, pos, neg_ℤ, ◌+ℤ◌, ◌-ℤ◌, ◌*ℤ◌, unsigned_abs, nat_le, Bool, ◌&&◌, Option, Some, None}
use Rattle.std.specs.Prelude.{if◌then◌else◌}
use Rattle.std.specs.Int.{int_max}
use Rattle.fx_axes.specs.Rounding.{near_up_of}
use Rattle.fx_sfnt.specs.declared.records.Metrics.{Metrics}
use Rattle.fx_vary.specs.declared.metrics.Bearings.{Bearings}

-- a FUnit, as the sums of points count
abbrev pub one_of_sums : ℤ
one_of_sums = pos (2 ^ 58)

-- the origin is the first phantom point, with halves toward the left
unfoldable pub origin_of : ℤ → ℤ → ℤ
origin_of at sum = neg_ℤ (near_up_of (neg_ℤ (at *ℤ one_of_sums +ℤ sum)) (2 ^ 58))

-- the advance is the way from the first phantom point to the second, rounded once, and not below 0
unfoldable pub advance_of : ℕ → ℤ → ℤ → ℤ
advance_of width first second = int_max (pos 0) (near_up_of (pos width *ℤ one_of_sums +ℤ (second -ℤ first)) (2 ^ 58))

-- an origin and an advance that a font can have: an xMin less a left side bearing, and an advanceWidth
abbrev pub are_bearings : ℤ → ℤ → Bool
are_bearings origin advance = nat_le (unsigned_abs origin) 65535 && nat_le (unsigned_abs advance) 65535

abbrev pub bearings_by : ℤ → ℤ → Option Bearings
bearings_by origin advance =
    if are_bearings origin advance then Some (record { origin = origin; advance = unsigned_abs advance }) else None

-- both, by the metrics at the defaults and the sums of the first two phantom points
unfoldable pub bearings_of : Metrics → ℤ → ℤ → ℤ → Option Bearings
bearings_of m x_min first second = bearings_by (origin_of (x_min -ℤ m.lsb) first) (advance_of m.advance_width first second)
