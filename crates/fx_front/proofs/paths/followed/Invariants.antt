use Rattle.std.proofs.Common.{ℕ, ◌-◌, List, Option}
use Rattle.std.specs.Prelude.{string_bytes}
use Rattle.fx_front.specs.Links.{Follows, most_links}
use Rattle.fx_front.proofs.paths.followed.Given as goal

-- what is found behind the name by the links that are left is found behind the path
abbrev pub invariant-links : goal.invariant-links
invariant-links g l = (found : Option (List ℕ))
    → Follows (g.D.Disk.Leads l.disk) (most_links - l.k) (string_bytes l.name) found
    → Follows (g.D.Disk.Leads l.disk) most_links l.path found
