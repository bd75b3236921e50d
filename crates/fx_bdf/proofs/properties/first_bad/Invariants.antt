use Rattle.std.proofs.Common.{length, ◌-◌, ◌≡◌, ◌≤◌}
use Rattle.fx_bdf.specs.Properties.{first_bad, most_properties, seen_properties}
use Rattle.fx_bdf.proofs.GoodProperties.{left_after}
use Rattle.fx_bdf.proofs.properties.first_bad.Given as goal

abbrev pub invariant-properties : goal.invariant-properties
invariant-properties l = record {
  first : first_bad (seen_properties l.properties) ≡ left_after l.properties l.i;
  inside : l.i ≤ length l.properties;
  few : l.i ≤ most_properties;
}

abbrev pub decreases-properties : goal.decreases-properties
decreases-properties l = length l.properties - l.i
