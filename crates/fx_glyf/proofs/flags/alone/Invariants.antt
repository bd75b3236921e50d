use Rattle.std.proofs.Common.{◌*◌, ◌≤◌}
use Rattle.fx_glyf.specs.inner.Sizes.{Measured}
use Rattle.fx_glyf.proofs.flags.alone.Given as goal

-- with the flags from `at` on, what was added up gives the measure of all
abbrev pub invariant-flags : goal.invariant-flags
invariant-flags l = record {
  measured : Measured l.bytes l.most l.at l.xs l.ys;
  few_xs : l.xs ≤ 2 * l.at;
  few_ys : l.ys ≤ 2 * l.at;
}
