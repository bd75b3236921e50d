use Rattle.std.proofs.Common.{◌≡◌, ◌*◌, ◌-◌, ◌≤◌, length}
use Rattle.fx_glyf.specs.Words.{words, count_from}
use Rattle.fx_glyf.proofs.ends.count_points.Given as goal

-- the end points that are left give the number of all
abbrev pub invariant-ends : goal.invariant-ends
invariant-ends l = record {
  same : count_from l.count (words (l.contours - l._k) l.rest) ≡ count_from 0 (words l.contours l.bytes);
  inside : 2 * (l.contours - l._k) ≤ length l.rest;
}
