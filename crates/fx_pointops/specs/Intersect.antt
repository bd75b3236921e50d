-- The row that puts a point where two lines cross.
-- Apple TrueType Reference Manual, ISECT. It gives the zones. Products are exact.
use Rattle.std.specs.Prelude.{ℤ, pos, ◌+ℤ◌, ◌-ℤ◌, ◌*ℤ◌, if◌then◌else◌}
use Rattle.std.specs.Ordering.{int_eq}
use Rattle.fx_fixed.specs.Numbers.{near_of, wrapped_of}
use Rattle.fx_fixed.specs.Places.{place_sum_of, place_difference_of}
use Rattle.fx_fixed.specs.declared.places.Place.{Place}
use Rattle.fx_zone.specs.Points.{put}
use Rattle.fx_gstate.specs.declared.state.GState.{GState}
use Rattle.fx_pointops.specs.declared.zones.Zones.{Zones}
use Rattle.fx_pointops.specs.Zones.{point_at, counting_two, on_point}
use Rattle.fx_pointops.specs.Measure.{cur_at}

-- the cross product of two differences of places
abbrev pub cross_of : Place → Place → ℤ
cross_of a b = a.x *ℤ b.y -ℤ a.y *ℤ b.x

-- d times the fraction n / by
unfoldable pub fraction_of : ℤ → ℤ → ℤ → ℤ
fraction_of n d by = wrapped_of (near_of (n *ℤ d) by)

abbrev pub scaled_by : ℤ → ℤ → Place → Place
scaled_by n by d = record { x = fraction_of n d.x by; y = fraction_of n d.y by }

-- the middle of four places
unfoldable pub mean_of : ℤ → ℤ → ℤ → ℤ → ℤ
mean_of a b c d = wrapped_of (near_of (a +ℤ b +ℤ (c +ℤ d)) (pos 4))

abbrev pub middle_of : Place → Place → Place → Place → Place
middle_of a0 a1 b0 b1 = record { x = mean_of a0.x a1.x b0.x b1.x; y = mean_of a0.y a1.y b0.y b1.y }

-- where the line from a0 by da crosses the line by db through the place at e from a0
abbrev pub crossing_of : Place → Place → Place → Place → Place
crossing_of a0 da db e = place_sum_of a0 (scaled_by (cross_of e db) (cross_of da db) da)

-- where the line through a0 and a1 crosses that through b0 and b1; their middle if they are parallel
unfoldable pub intersection_of : Place → Place → Place → Place → Place
intersection_of a0 a1 b0 b1 =
    if int_eq (cross_of (place_difference_of a1 a0) (place_difference_of b1 b0)) (pos 0)
    then middle_of a0 a1 b0 b1
    else crossing_of a0 (place_difference_of a1 a0) (place_difference_of b1 b0) (place_difference_of b0 a0)

-- 0F ISECT, InterSECTion of two lines: p a0 a1 b0 b1 ->
-- p, of zp2, is put where the line a0 a1, of zp1, and the line b0 b1, of zp0, cross, and touched along both axes.
unfoldable pub isect_of : GState → ℤ → ℤ → ℤ → ℤ → ℤ → Zones → Zones
isect_of g p a0 a1 b0 b1 z =
    on_point (put (intersection_of (cur_at g.zp1 a0 z) (cur_at g.zp1 a1 z) (cur_at g.zp0 b0 z) (cur_at g.zp0 b1 z))) g.zp2 p
    (counting_two (point_at g.zp0 b0 z) (point_at g.zp0 b1 z) (counting_two (point_at g.zp1 a0 z) (point_at g.zp1 a1 z) z))
