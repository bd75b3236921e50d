use Rattle.std.proofs.Common.{◌≡◌, ◌-◌, ◌≤◌, length}
use Rattle.fx_between.specs.Contours.{contour_filled}
use Rattle.fx_between.proofs.Sweeping.{swept_from}
use Rattle.fx_between.proofs.contours.fill_contour.Given as goal

abbrev pub invariant-points : goal.invariant-points
invariant-points g l = record {
  answer : contour_filled (g.R.Rule.is_named l.rule) (g.R.Rule.between l.rule) l.initial.points
      ≡ swept_from (g.R.Rule.is_named l.rule) (g.R.Rule.between l.rule) l.first l.last l.points l.start;
  within : l.start ≤ length l.points;
}

abbrev pub decreases-points : goal.decreases-points
decreases-points g l = length l.points - l.start
