use Rattle.std.proofs.Common.{◌≡◌, [], length, map, take, get_or}
use Rattle.fx_winding.specs.Limits.{greatest_side}
use Rattle.fx_cli.specs.Pictures.{dot_of}
use Rattle.fx_cli.proofs.picture.put_dots.Given as goal

abbrev pub invariant-pixels : goal.invariant-pixels
invariant-pixels l = record {
  long : length l.buffer ≡ greatest_side;
  dots : take l.j l.buffer ≡ map dot_of (take l.j (get_or l.glyph.rows l.i []));
}
