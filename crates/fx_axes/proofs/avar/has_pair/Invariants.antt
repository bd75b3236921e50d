use Rattle.std.proofs.Common.{◌≡◌, ◌*◌, ◌-◌, ◌≤◌, length}
use Rattle.fx_axes.specs.Avar.{has_pair}
use Rattle.fx_axes.proofs.avar.has_pair.Given as goal

-- one of all pairs is such a pair if one of those that are left is
abbrev pub invariant-pairs : goal.invariant-pairs
invariant-pairs l = record {
  same : has_pair l.fn.a (l.n - l.k) l.rest ≡ has_pair l.fn.a l.n l.pairs;
  inside : 4 * (l.n - l.k) ≤ length l.rest;
}
