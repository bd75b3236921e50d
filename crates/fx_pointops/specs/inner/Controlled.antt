-- MIRP after the single width, outside the twilight zone, for the code that reads both points once.
use Rattle.std.specs.Prelude.{ℤ}
use Rattle.fx_gstate.specs.declared.state.GState.{GState}
use Rattle.fx_pointops.specs.declared.distances.Relative.{Relative}
use Rattle.fx_pointops.specs.declared.zones.Zones.{Zones}
use Rattle.fx_pointops.specs.Zones.{point_at, counting_two}
use Rattle.fx_pointops.specs.Indirect.{moved_to_control}

-- the point moved to the control value; it and reference point 0 are counted if they are strays
unfoldable pub mirp_outside_of : GState → Relative → ℤ → ℤ → Zones → Zones
mirp_outside_of g how p v z = moved_to_control g how p v (counting_two (point_at g.zp1 p z) (point_at g.zp0 g.rp0 z) z)
