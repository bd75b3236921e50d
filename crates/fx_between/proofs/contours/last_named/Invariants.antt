use Rattle.std.proofs.Common.{◌≡◌, ◌≤◌, take, length, reverse}
use Rattle.fx_between.specs.Contours.{first_named}
use Rattle.fx_between.proofs.contours.last_named.Given as goal

abbrev pub invariant-last : goal.invariant-last
invariant-last g l = record {
  within : l.left ≤ length l.points;
  same : first_named (g.R.Rule.is_named l.rule) (reverse l.points)
      ≡ first_named (g.R.Rule.is_named l.rule) (reverse (take l.left l.points));
}

abbrev pub decreases-last : goal.decreases-last
decreases-last g l = l.left
