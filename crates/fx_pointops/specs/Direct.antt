-- The rows that move points directly: to a place, or to a distance from reference point 0.
-- Apple TrueType Reference Manual, UTP, MDAP, MSIRP, ALIGNRP, ALIGNPTS, SCFS, SHPIX, MDRP. Each gives the zones.
use Rattle.std.specs.Prelude.{ℤ, pos, Bool, if◌then◌else◌, List}
use Rattle.fx_fixed.specs.Numbers.{wrapped_of, cut_of, difference_of}
use Rattle.fx_fixed.specs.Places.{place_sum_of}
use Rattle.fx_fixed.specs.declared.places.Place.{Place}
use Rattle.fx_fixed.specs.declared.places.Axis.{Axis}
use Rattle.fx_fixed.specs.declared.places.Axis.TheVariants.{X, Y}
use Rattle.fx_zone.specs.declared.point.ZonePoint.{ZonePoint}
use Rattle.fx_zone.specs.Points.{marked, laid, settled}
use Rattle.std.specs.Prelude.{false}
use Rattle.fx_gstate.specs.declared.state.GState.{GState}
use Rattle.fx_gstate.specs.Rounding.{rounded_of}
use Rattle.fx_gstate.specs.Vectors.{has_part, place_along}
use Rattle.fx_pointops.specs.declared.distances.Relative.{Relative}
use Rattle.fx_pointops.specs.declared.zones.Zones.{Zones}
use Rattle.fx_pointops.specs.Zones.{is_twilight, point_at, changed_at, counting, counting_two, on_point}
use Rattle.fx_pointops.specs.ShiftPoint.{shift_by, shift_with, moved_by, point_shifted}
use Rattle.fx_pointops.specs.Measure.{org_at, along, distance_of, original_of}
use Rattle.fx_pointops.specs.Distances.{negative_of, single_of, rounded_by, kept_by}
use Rattle.fx_pointops.specs.Loops.{each}

-- 29 UTP, UnTouch Point: p ->
-- p, of zp0, is untouched along each axis along which the freedom vector has a part.
abbrev pub untouched_along : GState → Axis → ZonePoint → ZonePoint
untouched_along g axis q = if has_part axis g.freedom then marked axis false q else q

unfoldable pub untouched_by : GState → ZonePoint → ZonePoint
untouched_by g q = untouched_along g Y (untouched_along g X q)

unfoldable pub utp_of : GState → ℤ → Zones → Zones
utp_of g p z = on_point (untouched_by g) g.zp0 p z

-- 2E-2F MDAP[a], Move Direct Absolute Point: p ->
-- p, of zp0, moves by 0 with 0, and with 1 (a: rounds) to its coordinate as the round state rounds it. The machine sets rp0, rp1.
abbrev pub to_grid : GState → Bool → ℤ → ℤ
to_grid g rounds c = if rounds then difference_of (rounded_of g.round_state c) c else pos 0

unfoldable pub moved_to_grid : GState → Bool → ZonePoint → ZonePoint
moved_to_grid g rounds q = moved_by g (to_grid g rounds (along g q.cur)) q

unfoldable pub mdap_of : GState → Bool → ℤ → Zones → Zones
mdap_of g rounds p z = on_point (moved_to_grid g rounds) g.zp0 p z

-- p, of zp1, laid at rp0, of zp0, and a place from there, if zp1 is the twilight zone
abbrev pub laid_from_rp : GState → ℤ → Place → Zones → Zones
laid_from_rp g p by z = if is_twilight g.zp1 then changed_at (laid (place_sum_of (org_at g.zp0 g.rp0 z) by)) g.zp1 p z else z

-- p, of zp1, moved to a distance from rp0, of zp0
abbrev pub moved_to_distance : GState → ℤ → ℤ → Zones → Zones
moved_to_distance g p d z = changed_at (moved_by g (difference_of d (distance_of g g.zp1 p g.zp0 g.rp0 z))) g.zp1 p z

-- 3A-3B MSIRP[a], Move Stack Indirect Relative Point: p d ->
-- p, of zp1, moves to the distance d from rp0, of zp0; if zp1 is the twilight zone it is laid there first. The machine sets rp1,
-- rp2, and with 1 (a: sets rp0) rp0.
unfoldable pub msirp_of : GState → ℤ → ℤ → Zones → Zones
msirp_of g p d z =
    moved_to_distance g p d (laid_from_rp g p (shift_by g d) (counting_two (point_at g.zp1 p z) (point_at g.zp0 g.rp0 z) z))

-- 3C ALIGNRP, ALIGN Relative Point: .. p ->, a loop
-- Each p, of zp1, moves to the distance 0 from rp0, of zp0.
unfoldable pub aligned_to_rp : GState → ℤ → Zones → Zones
aligned_to_rp g p z = on_point (moved_by g (negative_of (distance_of g g.zp1 p g.zp0 g.rp0 z))) g.zp1 p z

unfoldable pub alignrp_of : GState → List ℤ → Zones → Zones
alignrp_of g points z = each (aligned_to_rp g) points (counting (point_at g.zp0 g.rp0 z) z)

-- 27 ALIGNPTS, ALIGN Points: p q ->
-- p, of zp1, and q, of zp0, meet halfway: p moves by half their distance, cut, and q by the rest.
abbrev pub half_of : ℤ → ℤ
half_of d = wrapped_of (cut_of d (pos 2))

abbrev pub met_at : GState → ℤ → ℤ → ℤ → Zones → Zones
met_at g p q d z = changed_at (moved_by g (difference_of (half_of d) d)) g.zp0 q (changed_at (moved_by g (half_of d)) g.zp1 p z)

unfoldable pub alignpts_of : GState → ℤ → ℤ → Zones → Zones
alignpts_of g p q z =
    met_at g p q (distance_of g g.zp0 q g.zp1 p z) (counting_two (point_at g.zp1 p z) (point_at g.zp0 q z) z)

-- 48 SCFS, Sets Coordinate From the Stack: p v ->
-- p, of zp2, moves to the coordinate v; if zp2 is the twilight zone it takes its current place for its original one afterwards.
abbrev pub settled_if : Bool → ZonePoint → ZonePoint
settled_if twilight q = if twilight then settled q else q

unfoldable pub moved_to_value : GState → ℤ → ZonePoint → ZonePoint
moved_to_value g v q = settled_if (is_twilight g.zp2) (moved_by g (difference_of v (along g q.cur)) q)

unfoldable pub scfs_of : GState → ℤ → ℤ → Zones → Zones
scfs_of g p v z = on_point (moved_to_value g v) g.zp2 p z

-- 38 SHPIX, SHift point by a PIXel amount: .. p a ->, a loop
-- Each p, of zp2, is shifted by a along the freedom vector.
unfoldable pub shpix_of : GState → List ℤ → ℤ → Zones → Zones
shpix_of g points a z = each (point_shifted g (shift_with g (place_along g.freedom a))) points z

-- C0-DF MDRP[abcde], Move Direct Relative Point: p ->
-- p, of zp1, moves to its original distance from rp0, of zp0, or the single width if that is near: with bit c (rounds) as the round
-- state rounds it, with bit b (keeps the minimum distance) at least the minimum distance. The machine sets rp1, rp2, and with bit a
-- (sets rp0) rp0. Bits d and e do nothing.
unfoldable pub wanted_of : GState → Relative → ℤ → ℤ
wanted_of g how o = kept_by g how (single_of g o) (rounded_by g how (single_of g o))

unfoldable pub mdrp_of : GState → Relative → ℤ → Zones → Zones
mdrp_of g how p z =
    moved_to_distance g p (wanted_of g how (original_of g g.zp1 p g.zp0 g.rp0 z))
    (counting_two (point_at g.zp1 p z) (point_at g.zp0 g.rp0 z) z)
