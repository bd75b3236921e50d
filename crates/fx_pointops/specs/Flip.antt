-- The rows that turn points on the curve into points off it, and back.
-- Apple TrueType Reference Manual, FLIPPT, FLIPRGON, FLIPRGOFF. Each gives the zones.
use Rattle.std.specs.Prelude.{ℕ, suc, ℤ, nat_lt, Bool, ◌&&◌, if◌then◌else◌, List, length, Option, Some, None}
use Rattle.fx_zone.specs.Figures.{Figure, range_curved}
use Rattle.fx_zone.specs.Points.{flipped}
use Rattle.fx_gstate.specs.declared.state.GState.{GState}
use Rattle.fx_gstate.specs.declared.zones.ZonePointer.{ZonePointer}
use Rattle.fx_pointops.specs.declared.zones.Zones.{Zones}
use Rattle.fx_pointops.specs.Zones.{on_zone, index_of, point_at, counting_two, on_point}
use Rattle.fx_pointops.specs.Loops.{each}

-- 80 FLIPPT, FLIP PoinT: .. p ->, a loop
-- Each p, of zp0, goes off the curve, or onto it.
unfoldable pub point_flipped : GState → ℤ → Zones → Zones
point_flipped g p z = on_point flipped g.zp0 p z

unfoldable pub flippt_of : GState → List ℤ → Zones → Zones
flippt_of g points z = each (point_flipped g) points z

-- the points from low to high on the curve, or off it, if both are inside
abbrev pub run_curved : Bool → ℕ → ℕ → Figure → Figure
run_curved on low high f =
    if nat_lt low (length f.points) && nat_lt high (length f.points) then range_curved on low (suc high) f else f

abbrev pub run_curved_at : Bool → ZonePointer → Option ℕ → Option ℕ → Zones → Zones
run_curved_at on zone (Some low) (Some high) z = on_zone (run_curved on low high) zone z
run_curved_at on zone (Some low) None z = z
run_curved_at on zone None high z = z

-- 81 FLIPRGON, 82 FLIPRGOFF, FLIP RanGe: low high ->
-- The points from low to high, of zp0, go onto the curve, or off it; none if one of the two is a stray.
unfoldable pub fliprg_of : GState → Bool → ℤ → ℤ → Zones → Zones
fliprg_of g on low high z =
    run_curved_at on g.zp0 (index_of low) (index_of high) (counting_two (point_at g.zp0 low z) (point_at g.zp0 high z) z)
