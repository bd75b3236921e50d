-- How instructions move points: along the freedom vector, and touching them.
-- Apple TrueType Reference Manual, "Freedom vector", "Instructing TrueType Glyphs".
use Rattle.std.specs.Prelude.{ℤ}
use Rattle.fx_fixed.specs.declared.places.Axis.TheVariants.{X, Y}
use Rattle.fx_fixed.specs.declared.places.Place.{Place}
use Rattle.fx_zone.specs.declared.point.PointShift.{PointShift}
use Rattle.fx_zone.specs.declared.point.ZonePoint.{ZonePoint}
use Rattle.fx_zone.specs.Points.{shifted}
use Rattle.fx_gstate.specs.declared.state.GState.{GState}
use Rattle.fx_gstate.specs.Vectors.{has_part, shift_of}
use Rattle.fx_pointops.specs.declared.zones.Zones.{Zones}
use Rattle.fx_pointops.specs.Zones.{on_point}

-- a shift that touches points along each axis along which the freedom vector has a part
abbrev pub shift_with : GState → Place → PointShift
shift_with g by = record { by = by; x = has_part X g.freedom; y = has_part Y g.freedom }

-- the shift that moves a point by a distance
abbrev pub shift_by : GState → ℤ → Place
shift_by g d = shift_of g.freedom g.projection d

-- a point moved by a distance
unfoldable pub moved_by : GState → ℤ → ZonePoint → ZonePoint
moved_by g d p = shifted (shift_with g (shift_by g d)) p

-- a point of zp2 shifted, as SHP and SHPIX do
unfoldable pub point_shifted : GState → PointShift → ℤ → Zones → Zones
point_shifted g shift p z = on_point (shifted shift) g.zp2 p z
