use Rattle.std.proofs.Common.{◌≡◌, length}
use Rattle.std.specs.Prelude.{option_map, true}
use Rattle.fx_glyf.specs.Components.{components_in, ending_of}
use Rattle.fx_glyf.proofs.ComponentRecords.{ending_with}
use Rattle.fx_glyf.proofs.records.skip_components.Given as goal

-- what comes after the components that are left comes after all
abbrev pub invariant-components : goal.invariant-components
invariant-components l =
    option_map (ending_with l.announced) (components_in l.more l.rest)
    ≡ option_map ending_of (components_in true l.bytes)

abbrev pub decreases-components : goal.decreases-components
decreases-components l = length l.rest
