-- A point of both zones that is lent to be changed.
use Rattle.std.specs.Prelude.{ℤ, Option}
use Rattle.std.specs.Borrow.{LendsIf, MutBor, Fml}
use Rattle.fx_zone.specs.declared.point.ZonePoint.{ZonePoint}
use Rattle.fx_zone.specs.contracts.point.ZonePoint.{the_row as point_row}
use Rattle.fx_gstate.specs.declared.zones.ZonePointer.{ZonePointer}
use Rattle.fx_pointops.specs.declared.zones.Zones.{Zones}
use Rattle.fx_pointops.specs.contracts.zones.Zones.{the_row}
use Rattle.fx_pointops.specs.Zones.{written_at}

-- the zones end with the last point behind r written at a number, or as they were if there is none
abbrev pub LendsPointAt : MutBor Zones → ZonePointer → ℤ → Option (MutBor ZonePoint) → Fml
LendsPointAt z zone n r = LendsIf the_row point_row z r (λ p. written_at p zone n z.now) z.now
