-- The points of both zones, as instructions find and change them, and the strays that they count.
-- Apple TrueType Reference Manual, "Zones"; what a stray does is this project's own choice.
-- zp0, zp1, zp2 are the zone pointers, rp0, rp1, rp2 the reference points. Zone 0 is the twilight zone, zone 1 the glyph's. A
-- point "of zp0" is one of the zone that zp0 names.
use Rattle.std.specs.Prelude.{ℕ, ◌+◌, ℤ, pos, negsuc, Bool, true, false, List, Option, Some, None}
use Rattle.std.specs.Prelude.{slice_get, slice_set}
use Rattle.fx_fixed.specs.Numbers.{counted}
use Rattle.fx_fixed.specs.Places.{origin}
use Rattle.fx_fixed.specs.declared.places.Place.{Place}
use Rattle.fx_zone.specs.declared.point.ZonePoint.{ZonePoint}
use Rattle.fx_zone.specs.Figures.{Figure, HasShape, changed}
use Rattle.fx_gstate.specs.declared.zones.ZonePointer.{ZonePointer}
use Rattle.fx_gstate.specs.declared.zones.ZonePointer.TheVariants.{Twilight, Glyph}
use Rattle.fx_pointops.specs.declared.zones.Zones.{Zones}

-- the zone that a zone pointer names
abbrev pub zone_at : ZonePointer → Zones → Figure
zone_at Twilight z = z.twilight
zone_at Glyph z = z.glyph

abbrev pub is_twilight : ZonePointer → Bool
is_twilight Twilight = true
is_twilight Glyph = false

abbrev pub is_same_zone : ZonePointer → ZonePointer → Bool
is_same_zone Twilight Twilight = true
is_same_zone Glyph Glyph = true
is_same_zone _ _ = false

-- the zone that a zone pointer names changed
abbrev pub on_zone : (Figure → Figure) → ZonePointer → Zones → Zones
on_zone change Twilight z = record z { twilight = change z.twilight }
on_zone change Glyph z = record z { glyph = change z.glyph }

-- a stack number as the number of a point or a contour
abbrev pub index_of : ℤ → Option ℕ
index_of (pos n) = Some n
index_of (negsuc n) = None

-- the point of a number, if it is inside
abbrev pub point_of : Option ℕ → List ZonePoint → Option ZonePoint
point_of None points = None
point_of (Some n) points = slice_get points n

unfoldable pub point_at : ZonePointer → ℤ → Zones → Option ZonePoint
point_at zone n z = point_of (index_of n) (zone_at zone z).points

-- the point of a number changed; nothing if it is outside
abbrev pub changed_of : (ZonePoint → ZonePoint) → ZonePointer → Option ℕ → Zones → Zones
changed_of change zone None z = z
changed_of change zone (Some n) z = on_zone (changed change n) zone z

unfoldable pub changed_at : (ZonePoint → ZonePoint) → ZonePointer → ℤ → Zones → Zones
changed_at change zone n z = changed_of change zone (index_of n) z

-- the point of a number written; nothing if it is outside
abbrev pub written_of : ZonePoint → ZonePointer → Option ℕ → Zones → Zones
written_of p zone None z = z
written_of p zone (Some n) z = on_zone (λ f. record f { points = slice_set f.points n p }) zone z

unfoldable pub written_at : ZonePoint → ZonePointer → ℤ → Zones → Zones
written_at p zone n z = written_of p zone (index_of n) z

-- one stray more
abbrev pub with_stray : Zones → Zones
with_stray z = record z { strays = counted (z.strays + 1) }

-- a point that is not inside is a stray, and is counted
abbrev pub counting : Option ZonePoint → Zones → Zones
counting (Some p) z = z
counting None z = with_stray z

abbrev pub counting_two : Option ZonePoint → Option ZonePoint → Zones → Zones
counting_two p q z = counting q (counting p z)

-- a row that changes one point, and counts it if it is a stray
abbrev pub on_point : (ZonePoint → ZonePoint) → ZonePointer → ℤ → Zones → Zones
on_point change zone n z = changed_at change zone n (counting (point_at zone n z) z)

-- a stray reads as (0, 0)
abbrev pub org_of : Option ZonePoint → Place
org_of (Some p) = p.org
org_of None = origin

abbrev pub cur_of : Option ZonePoint → Place
cur_of (Some p) = p.cur
cur_of None = origin

-- as many points, and the same contours, in both zones
pub record HasShapes (old new : Zones) : Type 0 where
  pub twilight : HasShape old.twilight new.twilight
  pub glyph : HasShape old.glyph new.glyph
