-- Phantom points (Apple TrueType Reference Manual, "Instructing TrueType Glyphs": phantom points; OpenType, `glyf`).
use Rattle.std.specs.Prelude.{ℕ, ℤ, pos, ◌*ℤ◌, ◌-ℤ◌, List, [], ◌∷◌, Bool, false, if◌then◌else◌}
use Rattle.fx_fixed.specs.Numbers.{near_of, wrapped_of, sum_of}
use Rattle.fx_fixed.specs.Places.{place_on}
use Rattle.fx_fixed.specs.declared.places.Axis.{Axis}
use Rattle.fx_fixed.specs.declared.places.Axis.TheVariants.{X, Y}
use Rattle.fx_sfnt.specs.declared.records.Metrics.{Metrics}
use Rattle.fx_zone.specs.declared.point.ZonePoint.{ZonePoint}
use Rattle.fx_zone.specs.Points.{untouched}
use Rattle.fx_scale.specs.declared.scale.Scale.{Scale}
use Rattle.fx_scale.specs.declared.phantom.PhantomPoints.{PhantomPoints}
use Rattle.fx_scale.specs.Scaling.{scaled_by}

-- a coordinate, at whole pixels with hinting on
abbrev pub fitted : Bool → ℤ → ℤ
fitted hinted z = if hinted then wrapped_of (pos 64 *ℤ near_of z (pos 64)) else z

-- a phantom point on an axis
abbrev pub phantom_on : Axis → Bool → ℤ → ZonePoint
phantom_on axis hinted z = record {
  org = place_on axis z;
  cur = place_on axis (fitted hinted z);
  on = false;
  touched_x = false;
  touched_y = false;
}

-- the four phantom points: a glyph's origin and its advance, the font's ascender and descender
unfoldable pub phantoms_from : Scale → Bool → ℤ → ℕ → PhantomPoints
phantoms_from s hinted origin advance = record {
  origin = phantom_on X hinted (scaled_by s origin);
  advance = phantom_on X hinted (sum_of (scaled_by s origin) (scaled_by s (pos advance)));
  ascender = phantom_on Y hinted (scaled_by s s.ascender);
  descender = phantom_on Y hinted (scaled_by s s.descender);
}

-- those of a glyph by its xMin and metrics: its left side lies at its bearing
unfoldable pub phantoms_of : Scale → Bool → ℤ → Metrics → PhantomPoints
phantoms_of s hinted x_min m = phantoms_from s hinted (x_min -ℤ m.lsb) m.advance_width

-- the four in their order after a glyph's points
abbrev pub in_order : PhantomPoints → List ZonePoint
in_order ps = ps.origin ∷ ps.advance ∷ ps.ascender ∷ ps.descender ∷ []

-- phantom points untouched, each with its original and its current place
abbrev pub untouched_points : PhantomPoints → PhantomPoints
untouched_points ps = record {
  origin = untouched ps.origin;
  advance = untouched ps.advance;
  ascender = untouched ps.ascender;
  descender = untouched ps.descender;
}
