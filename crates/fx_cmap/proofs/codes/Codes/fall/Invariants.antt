use Rattle.std.proofs.Common.{◌≡◌, drop}
use Rattle.std.specs.Prelude.{◌||◌}
use Rattle.fx_cmap.specs.Subtables.{falls}
use Rattle.fx_cmap.proofs.codes.Codes.fall.Given as goal

-- all codes fall if those so far do, or those that are left
abbrev pub invariant-codes : goal.invariant-codes
invariant-codes l = (l.falls || falls l.before (drop l.k l.self)) ≡ falls 0 l.self
