-- A simple glyph's points at a size (OpenType, `glyf`).
use Rattle.std.specs.Prelude.{map}
use Rattle.fx_glyf.specs.declared.point.GlyphPoint as glyph_point
use Rattle.fx_glyf.specs.Shapes.{SimpleView}
use Rattle.fx_zone.specs.declared.point.ZonePoint.{ZonePoint}
use Rattle.fx_zone.specs.Points.{resting}
use Rattle.fx_zone.specs.Figures.{Figure}
use Rattle.fx_scale.specs.declared.scale.Scale.{Scale}
use Rattle.fx_scale.specs.Scaling.{scaled_by}

-- a point is scaled by itself: original and current place alike, untouched
abbrev pub scaled_point : Scale → glyph_point.GlyphPoint → ZonePoint
scaled_point s p = resting (record { x = scaled_by s p.x; y = scaled_by s p.y }) p.on_curve

-- the points and contours of a simple glyph
abbrev pub zone_of_simple : Scale → SimpleView → Figure
zone_of_simple s shape = record { points = map (scaled_point s) shape.points; ends = shape.ends }
