-- Places in 26.6 pixels, and the axes of the plane.
use Rattle.std.specs.Prelude.{ℤ, pos}
use Rattle.fx_fixed.specs.Numbers.{sum_of, difference_of}
use Rattle.fx_fixed.specs.declared.places.Axis.{Axis}
use Rattle.fx_fixed.specs.declared.places.Axis.TheVariants.{X, Y}
use Rattle.fx_fixed.specs.declared.places.Place.{Place}

-- the place with both coordinates 0
abbrev pub origin : Place
origin = record { x = pos 0; y = pos 0 }

-- a place on an axis
abbrev pub place_on : Axis → ℤ → Place
place_on X z = record { x = z; y = pos 0 }
place_on Y z = record { x = pos 0; y = z }

-- the coordinate of a place along an axis
abbrev pub coordinate_of : Axis → Place → ℤ
coordinate_of X p = p.x
coordinate_of Y p = p.y

-- the sum of two places, modulo 2 ^ 32
abbrev pub place_sum_of : Place → Place → Place
place_sum_of p q = record { x = sum_of p.x q.x; y = sum_of p.y q.y }

-- the difference of two places, modulo 2 ^ 32
abbrev pub place_difference_of : Place → Place → Place
place_difference_of p q = record { x = difference_of p.x q.x; y = difference_of p.y q.y }
