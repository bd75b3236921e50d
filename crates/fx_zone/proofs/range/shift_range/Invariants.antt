use Rattle.std.proofs.Common.{◌≡◌}
use Rattle.fx_zone.specs.Figures.{in_range_without}
use Rattle.fx_zone.specs.Points.{shifted}
use Rattle.fx_zone.proofs.Changing.{changed_front}
use Rattle.fx_zone.proofs.range.shift_range.Given as goal

abbrev pub invariant-range : goal.invariant-range
invariant-range l =
    l.points ≡ changed_front (in_range_without l.range) (shifted l.shift) l.number 0 l.initial.points
