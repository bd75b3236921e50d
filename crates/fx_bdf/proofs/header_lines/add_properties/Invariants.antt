use Rattle.std.proofs.Common.{◌-◌, length, take}
use Rattle.std.specs.List.{flat_map}
use Rattle.std.specs.Prelude.{Ok}
use Rattle.fx_fixed.specs.Texts.{Adds, Fails}
use Rattle.fx_bdf.specs.Properties.{property_text, seen_property}
use Rattle.fx_bdf.proofs.header_lines.add_properties.Given as goal

-- the lines of the properties before i were added
abbrev pub invariant-properties : goal.invariant-properties
invariant-properties g l =
    Adds Fails l.fn.text l.text (flat_map (λ p. property_text (seen_property p)) (take l.i l.properties)) (Ok tt)

abbrev pub decreases-properties : goal.decreases-properties
decreases-properties g l = length l.properties - l.i
