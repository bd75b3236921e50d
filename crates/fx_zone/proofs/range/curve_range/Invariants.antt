use Rattle.std.proofs.Common.{◌≡◌}
use Rattle.fx_zone.specs.Figures.{in_range}
use Rattle.fx_zone.specs.Points.{curved}
use Rattle.fx_zone.proofs.Changing.{changed_front}
use Rattle.fx_zone.proofs.range.curve_range.Given as goal

abbrev pub invariant-range : goal.invariant-range
invariant-range l = l.points ≡ changed_front (in_range l.first l.past) (curved l.on) l.number 0 l.initial.points
