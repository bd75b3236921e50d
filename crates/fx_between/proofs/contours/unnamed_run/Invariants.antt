use Rattle.std.proofs.Common.{◌≡◌, ◌+◌, drop}
use Rattle.fx_between.specs.inner.Runs.{unnamed_run}
use Rattle.fx_between.proofs.contours.unnamed_run.Given as goal

abbrev pub invariant-run : goal.invariant-run
invariant-run g l =
    unnamed_run (g.R.Rule.is_named l.rule) l.points ≡ l.end + unnamed_run (g.R.Rule.is_named l.rule) (drop l.end l.points)
