use Rattle.std.proofs.Common.{◌≡◌, drop}
use Rattle.fx_bdf.specs.Properties.{is_taken, seen_properties}
use Rattle.fx_bdf.proofs.properties.is_taken.Given as goal

abbrev pub invariant-properties : goal.invariant-properties
invariant-properties l = is_taken (seen_properties l.properties) l.name ≡ is_taken
    (seen_properties (drop l.property-index l.properties)) l.name
