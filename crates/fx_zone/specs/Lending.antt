-- A point of a zone that is lent to be changed.
use Rattle.std.specs.Prelude.{ℕ, Option, slice_set}
use Rattle.std.specs.Borrow.{LendsIf, MutBor, Fml}
use Rattle.fx_zone.specs.declared.point.ZonePoint.{ZonePoint}
use Rattle.fx_zone.specs.contracts.point.ZonePoint.{the_row as point_row}
use Rattle.fx_zone.specs.contracts.zone.Zone.{the_row}
use Rattle.fx_zone.specs.Figures.{Figure}

-- a zone ends with the last point behind r at a number, or as it was if there is none
abbrev pub LendsPoint : MutBor Figure → ℕ → Option (MutBor ZonePoint) → Fml
LendsPoint z n r = LendsIf the_row point_row z r (λ p. record z.now { points = slice_set z.now.points n p }) z.now
