use Rattle.std.proofs.Common.{◌≡◌, ◌*◌, false, length, take}
use Rattle.mkstrike_c.specs.Pixels.{row_bytes}
use Rattle.mkstrike_c.proofs.pixels.put_each.Given as goal

-- the bytes so far are at the front
abbrev pub invariant-eights : goal.invariant-eights
invariant-eights l = record {
  long : length l.bytes ≡ l.width;
  bytes : take (8 * l.k) l.bytes ≡ take (8 * l.k) (row_bytes false l.row);
}
