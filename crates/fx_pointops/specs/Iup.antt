-- The row that interpolates untouched points.
-- Apple TrueType Reference Manual, IUP.
use Rattle.fx_fixed.specs.declared.places.Axis.{Axis}
use Rattle.fx_zone.specs.Interpolation.{figure_interpolated}
use Rattle.fx_pointops.specs.declared.zones.Zones.{Zones}

-- 30-31 IUP[a], Interpolate Untouched Points: ->
-- The untouched points of the glyph zone are interpolated, with 0 along the y axis, with 1 along the x axis, whatever zp2 is.
unfoldable pub iup_of : Axis → Zones → Zones
iup_of axis z = record z { glyph = figure_interpolated axis z.glyph }
