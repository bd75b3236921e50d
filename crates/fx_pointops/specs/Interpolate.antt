-- The row that keeps points in proportion between two reference points.
-- Apple TrueType Reference Manual, IP. It gives the zones.
use Rattle.std.specs.Prelude.{ℤ, pos, ◌*ℤ◌, if◌then◌else◌, List}
use Rattle.std.specs.Ordering.{int_eq}
use Rattle.fx_fixed.specs.Numbers.{near_of, wrapped_of, difference_of}
use Rattle.fx_gstate.specs.declared.state.GState.{GState}
use Rattle.fx_pointops.specs.declared.zones.Zones.{Zones}
use Rattle.fx_pointops.specs.Zones.{point_at, counting_two, on_point}
use Rattle.fx_pointops.specs.ShiftPoint.{moved_by}
use Rattle.fx_pointops.specs.Measure.{distance_of, original_of}
use Rattle.fx_pointops.specs.Loops.{each}

-- the distance o in the proportion of cb to ob; o itself if ob is 0
unfoldable pub proportion_of : ℤ → ℤ → ℤ → ℤ
proportion_of o cb ob = if int_eq ob (pos 0) then o else wrapped_of (near_of (o *ℤ cb) ob)

-- 39 IP, Interpolate Point: .. p ->, a loop
-- Let ob be the original distance of rp2, of zp1, from rp1, of zp0, and cb the current one, both measured once. Each p, of zp2, has
-- an original distance o from rp1 and a current one c. It moves to the distance n from rp1 that is to o as cb to ob.
unfoldable pub point_in_proportion : GState → ℤ → ℤ → ℤ → Zones → Zones
point_in_proportion g cb ob p z = on_point
    (moved_by g (difference_of (proportion_of (original_of g g.zp2 p g.zp0 g.rp1 z) cb ob) (distance_of g g.zp2 p g.zp0 g.rp1 z)))
    g.zp2 p z

unfoldable pub ip_of : GState → List ℤ → Zones → Zones
ip_of g points z =
    each (point_in_proportion g (distance_of g g.zp1 g.rp2 g.zp0 g.rp1 z) (original_of g g.zp1 g.rp2 g.zp0 g.rp1 z)) points
    (counting_two (point_at g.zp0 g.rp1 z) (point_at g.zp1 g.rp2 z) z)
