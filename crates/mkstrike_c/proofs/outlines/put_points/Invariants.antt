use Rattle.std.proofs.Common.{◌≡◌, length, map, take, drop}
use Rattle.mkstrike_c.specs.Outlines.{point_of}
use Rattle.mkstrike_c.proofs.outlines.put_points.Given as goal

-- the points so far are at the front
abbrev pub invariant-points : goal.invariant-points
invariant-points l = record {
  same : length l.buffer ≡ length l.initial.buffer;
  front : take l.i l.buffer ≡ map point_of (take l.i l.points);
  rest : drop l.i l.buffer ≡ drop l.i l.initial.buffer;
}
