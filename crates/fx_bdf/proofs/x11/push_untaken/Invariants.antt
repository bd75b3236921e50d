use Rattle.std.proofs.Common.{◌≡◌, ◌++◌, take}
use Rattle.fx_bdf.specs.Properties.{seen_properties}
use Rattle.fx_bdf.proofs.MoreProperties.{untaken}
use Rattle.fx_bdf.proofs.x11.push_untaken.Given as goal

-- those of the properties so far whose names the given ones do not have were added
abbrev pub invariant-more : goal.invariant-more
invariant-more l =
    seen_properties l.all.items ≡ seen_properties l.fn.all.items ++ untaken (seen_properties l.given) (take l.property-index l.more)
