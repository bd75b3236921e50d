use Rattle.std.proofs.Common.{◌≡◌, ◌+◌, ◌*◌, ◌≤◌}
use Rattle.fx_glyf.specs.Points.{flags_from, start}
use Rattle.fx_glyf.specs.inner.Sizes.{measured_on, measured_of}
use Rattle.fx_glyf.proofs.flags.measured.Given as goal

-- with the flags that are left, what was added up gives the measure of all
abbrev pub invariant-runs : goal.invariant-runs
invariant-runs l = record {
  same : measured_on l.xs l.ys (flags_from l.left (start l.rest)) ≡ measured_of l.count l.bytes;
  few_xs : l.xs + 2 * l.left ≤ 2 * l.count;
  few_ys : l.ys + 2 * l.left ≤ 2 * l.count;
}

abbrev pub decreases-runs : goal.decreases-runs
decreases-runs l = l.left
