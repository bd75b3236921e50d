use Rattle.std.proofs.Common.{◌≡◌, ◌-◌}
use Rattle.fx_axes.specs.Avar.{are_maps}
use Rattle.fx_axes.proofs.avar.are_maps.Given as goal

-- all are maps if those that are left are
abbrev pub invariant-maps : goal.invariant-maps
invariant-maps l = are_maps (l.n - l.k) l.rest ≡ are_maps l.n l.bytes
