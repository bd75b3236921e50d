use Rattle.std.proofs.Common.{◌≡◌, ◌-◌, ◌≤◌, length, take}
use Rattle.fx_strike.specs.inner.Mapping.{mapped_of}
use Rattle.fx_strike.proofs.characters.look_up.Given as goal

-- those of the code points so far were found, by a cursor over the character map
abbrev pub invariant-codes : goal.invariant-codes
invariant-codes l = record {
  map : l.cursor ≡ l.map;
  within : l.k ≤ length l.codes;
  found : l.mapped.items ≡ mapped_of l.map (take l.k l.codes);
}

abbrev pub decreases-codes : goal.decreases-codes
decreases-codes l = length l.codes - l.k
