use Rattle.std.proofs.Common.{◌≡◌, true, length, map, take}
use Rattle.std.specs.List.{range_with_len}
use Rattle.mkstrike_c.specs.Pixels.{row_byte, stride_of}
use Rattle.mkstrike_c.proofs.pixels.put_packed.Given as goal

-- the bytes so far are at the front
abbrev pub invariant-bytes : goal.invariant-bytes
invariant-bytes l = record {
  long : length l.bytes ≡ stride_of true l.width;
  bytes : take l.k l.bytes ≡ map (row_byte true l.row) (range_with_len 0 l.k);
}
