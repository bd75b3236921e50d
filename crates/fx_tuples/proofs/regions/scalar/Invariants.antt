use Rattle.std.proofs.Common.{◌≡◌, ◌≤◌}
use Rattle.fx_tuples.specs.Regions.{scalar_of, tent_of, whole}
use Rattle.fx_tuples.proofs.regions.scalar.Given as goal

-- the scalar is that of the axes before k
abbrev pub invariant-axes : goal.invariant-axes
invariant-axes l = record {
  same : l.scalar ≡ scalar_of
      (tent_of l.region.is_intermediate l.region.peaks.now l.region.starts.now l.region.ends.now) l.coordinates l.k;
  bound : l.scalar ≤ whole;
}
