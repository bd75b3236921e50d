-- Places, distances and lines, as instructions measure them.
-- Apple TrueType Reference Manual, GC, MD, SPVTL, SFVTL, SDPVTL. Differences are taken modulo 2 ^ 32 before they are projected.
-- Each row gives what it measures, and the zones, in which it has counted its strays.
use Rattle.std.specs.Prelude.{ℤ, Bool, if◌then◌else◌}
use Rattle.fx_fixed.specs.Places.{place_difference_of}
use Rattle.fx_fixed.specs.declared.places.Place.{Place}
use Rattle.fx_gstate.specs.declared.state.GState.{GState}
use Rattle.fx_gstate.specs.declared.zones.ZonePointer.{ZonePointer}
use Rattle.fx_gstate.specs.Vectors.{projection_of}
use Rattle.fx_pointops.specs.declared.measure.LineBetween.{LineBetween}
use Rattle.fx_pointops.specs.declared.zones.Zones.{Zones}
use Rattle.fx_pointops.specs.Zones.{point_at, counting, counting_two, org_of, cur_of}

-- a point's original and current place
abbrev pub org_at : ZonePointer → ℤ → Zones → Place
org_at zone p z = org_of (point_at zone p z)

abbrev pub cur_at : ZonePointer → ℤ → Zones → Place
cur_at zone p z = cur_of (point_at zone p z)

-- a difference along the projection vector, and along its dual
abbrev pub along : GState → Place → ℤ
along g d = projection_of g.projection d

abbrev pub along_dual : GState → Place → ℤ
along_dual g d = projection_of g.dual d

-- the current distance of a point p from a point q, and the original one
abbrev pub distance_of : GState → ZonePointer → ℤ → ZonePointer → ℤ → Zones → ℤ
distance_of g zone p base q z = along g (place_difference_of (cur_at zone p z) (cur_at base q z))

abbrev pub original_of : GState → ZonePointer → ℤ → ZonePointer → ℤ → Zones → ℤ
original_of g zone p base q z = along_dual g (place_difference_of (org_at zone p z) (org_at base q z))

-- 46-47 GC[a], Get Coordinate: p -> v
-- The coordinate of p, of zp2: with 0 the current one, with 1 the original one, along the dual vector.
unfoldable pub gc_of : GState → Bool → ℤ → Zones → ℤ × Zones
gc_of g original p z = (
  if original then along_dual g (org_at g.zp2 p z) else along g (cur_at g.zp2 p z),
  counting (point_at g.zp2 p z) z,
)

-- 49-4A MD[a], Measure Distance: p q -> v
-- The distance of p, of zp0, from q, of zp1: 49 the current one; 4A the original one, along the dual vector.
unfoldable pub md_of : GState → Bool → ℤ → ℤ → Zones → ℤ × Zones
md_of g original p q z = (
  if original then original_of g g.zp0 p g.zp1 q z else distance_of g g.zp0 p g.zp1 q z,
  counting_two (point_at g.zp0 p z) (point_at g.zp1 q z) z,
)

-- 06-07 SPVTL[a], 08-09 SFVTL[a], 86-87 SDPVTL[a]: p1 p2 ->
-- The line to p1, of zp1, from p2, of zp2: the difference of their original and of their current places.
unfoldable pub line_between : GState → ℤ → ℤ → Zones → LineBetween × Zones
line_between g p1 p2 z = (
  record {
    org = place_difference_of (org_at g.zp1 p1 z) (org_at g.zp2 p2 z);
    cur = place_difference_of (cur_at g.zp1 p1 z) (cur_at g.zp2 p2 z);
  },
  counting_two (point_at g.zp1 p1 z) (point_at g.zp2 p2 z) z,
)
