-- The rows that shift points as a reference point was moved.
-- Apple TrueType Reference Manual, SHP, SHC, SHZ. Each gives the zones.
use Rattle.std.specs.Prelude.{ℕ, ◌-◌, ℤ, Bool, false, if◌then◌else◌, List, length, Option, Some, None}
use Rattle.fx_fixed.specs.Places.{place_difference_of}
use Rattle.fx_fixed.specs.declared.places.Place.{Place}
use Rattle.fx_zone.specs.declared.range.PointRange.{PointRange}
use Rattle.fx_zone.specs.Figures.{Figure, range_shifted, contour_of}
use Rattle.fx_gstate.specs.declared.state.GState.{GState}
use Rattle.fx_gstate.specs.declared.zones.ZonePointer.{ZonePointer}
use Rattle.fx_gstate.specs.declared.zones.ZonePointer.TheVariants.{Twilight, Glyph}
use Rattle.fx_pointops.specs.declared.zones.Zones.{Zones}
use Rattle.fx_pointops.specs.Zones.{zone_at, is_same_zone, on_zone, index_of, point_at, with_stray, counting}
use Rattle.fx_pointops.specs.ShiftPoint.{shift_by, shift_with, point_shifted}
use Rattle.fx_pointops.specs.Measure.{org_at, cur_at, along}
use Rattle.fx_pointops.specs.Loops.{each}

-- the reference point: with 0 rp2, of zp1; with 1 rp1, of zp0
abbrev pub reference_zone : GState → Bool → ZonePointer
reference_zone g one = if one then g.zp0 else g.zp1

abbrev pub reference_point : GState → Bool → ℤ
reference_point g one = if one then g.rp1 else g.rp2

-- it is counted if it is a stray
abbrev pub counting_reference : GState → Bool → Zones → Zones
counting_reference g one z = counting (point_at (reference_zone g one) (reference_point g one) z) z

-- the shift that moves a point as far as the reference point was moved
abbrev pub moved_of : GState → ZonePointer → ℤ → Zones → ℤ
moved_of g zone p z = along g (place_difference_of (cur_at zone p z) (org_at zone p z))

unfoldable pub reference_shift : GState → Bool → Zones → Place
reference_shift g one z = shift_by g (moved_of g (reference_zone g one) (reference_point g one) z)

-- the reference point's number, if it is in this zone
abbrev pub excepted : GState → Bool → ZonePointer → Option ℕ
excepted g one zone = if is_same_zone (reference_zone g one) zone then index_of (reference_point g one) else None

-- 32-33 SHP[a], SHift Point: .. p ->, a loop
-- Each p, of zp2, is shifted as the reference point was moved (a: takes rp1).
unfoldable pub shp_of : GState → Bool → List ℤ → Zones → Zones
shp_of g one points z = each (point_shifted g (shift_with g (reference_shift g one z))) points (counting_reference g one z)

-- the first point of a contour, and the one after its last, if there is one
abbrev pub contour_numbered : Option ℕ → Figure → Option (ℕ × ℕ)
contour_numbered None f = None
contour_numbered (Some k) f = contour_of f.ends k

abbrev pub contour_at : ZonePointer → ℤ → Zones → Option (ℕ × ℕ)
contour_at zone k z = contour_numbered (index_of k) (zone_at zone z)

-- 34-35 SHC[a], SHift Contour: k ->
-- The points of contour k, of zp2, are shifted, but the reference point. A contour that is not there is a stray.
abbrev pub contour_shifted : GState → Place → Option ℕ → Option (ℕ × ℕ) → Zones → Zones
contour_shifted g by except (Some c) z =
    on_zone (range_shifted (shift_with g by) (record { first = c.0; past = c.1; except = except })) g.zp2 z
contour_shifted g by except None z = with_stray z

abbrev pub contour_shifted_at : GState → Bool → Place → ℤ → Zones → Zones
contour_shifted_at g one by k z = contour_shifted g by (excepted g one g.zp2) (contour_at g.zp2 k z) z

unfoldable pub shc_of : GState → Bool → ℤ → Zones → Zones
shc_of g one k z = contour_shifted_at g one (reference_shift g one z) k (counting_reference g one z)

-- 36-37 SHZ[a], SHift Zone: z ->
-- The points of a zone are shifted, but the reference point and a glyph's four phantom points, which are the last. None is touched.
abbrev pub count_without_phantoms : ZonePointer → Zones → ℕ
count_without_phantoms Twilight z = length z.twilight.points
count_without_phantoms Glyph z = length z.glyph.points - 4

abbrev pub range_without : GState → Bool → ZonePointer → Zones → PointRange
range_without g one zone z = record { first = 0; past = count_without_phantoms zone z; except = excepted g one zone }

abbrev pub zone_shifted : GState → Bool → Place → ZonePointer → Zones → Zones
zone_shifted g one by zone z =
    on_zone (range_shifted (record { by = by; x = false; y = false }) (range_without g one zone z)) zone z

unfoldable pub shz_of : GState → Bool → ZonePointer → Zones → Zones
shz_of g one zone z = zone_shifted g one (reference_shift g one z) zone (counting_reference g one z)
