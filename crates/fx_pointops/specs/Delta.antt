-- The rows that move points at some sizes.
-- Apple TrueType Reference Manual, DELTAP1, DELTAP2, DELTAP3. It gives the zones.
use Rattle.std.specs.Prelude.{ℕ, ℤ, List}
use Rattle.fx_gstate.specs.declared.deltas.Delta.{Delta}
use Rattle.fx_gstate.specs.declared.deltas.DeltaForm.{DeltaForm}
use Rattle.fx_gstate.specs.declared.state.GState.{GState}
use Rattle.fx_gstate.specs.Deltas.{delta_of, acted, each_pair}
use Rattle.fx_pointops.specs.declared.zones.Zones.{Zones}
use Rattle.fx_pointops.specs.Zones.{on_point}
use Rattle.fx_pointops.specs.ShiftPoint.{moved_by}

-- 5D DELTAP1, 71 DELTAP2, 72 DELTAP3, DELTA exception P: .. argument p n ->, n pairs
-- Each p, of zp0, whose argument acts at this size moves by its amount; the others are not looked at. Reads the delta base and
-- shift.
abbrev pub point_moved_at : GState → ℕ → Delta → ℤ → Zones → Zones
point_moved_at g ppem d p z = acted (λ amount. on_point (moved_by g amount) g.zp0 p) ppem d z

unfoldable pub point_delta : GState → DeltaForm → ℕ → ℤ → ℤ → Zones → Zones
point_delta g form ppem p argument z = point_moved_at g ppem (delta_of form g.delta_base g.delta_shift argument) p z

unfoldable pub deltap_of : GState → DeltaForm → ℕ → List ℤ → Zones → Zones
deltap_of g form ppem pairs z = each_pair (point_delta g form ppem) pairs z
