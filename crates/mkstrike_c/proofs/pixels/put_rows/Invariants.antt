use Rattle.std.proofs.Common.{◌≡◌, ◌*◌, length, take}
use Rattle.std.specs.List.{flat_map}
use Rattle.mkstrike_c.specs.Pixels.{row_bytes, size_of}
use Rattle.mkstrike_c.proofs.pixels.put_rows.Given as goal

-- the rows so far stand at the front
abbrev pub invariant-rows : goal.invariant-rows
invariant-rows l = record {
  long : length l.pixels ≡ size_of l.packed l.glyph;
  at : l.start ≡ l.i * l.stride;
  rows : take l.start l.pixels ≡ flat_map (row_bytes l.packed) (take l.i l.glyph.rows);
}
