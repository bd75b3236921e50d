use Rattle.std.proofs.Common.{◌≡◌, ◌+◌, ◌*◌, ◌-◌, ◌≤◌, length}
use Rattle.fx_axes.specs.Avar.{are_steps}
use Rattle.fx_axes.proofs.avar.are_steps.Given as goal

-- all neighbours are steps if those that are left are
abbrev pub invariant-pairs : goal.invariant-pairs
invariant-pairs l = record {
  same : are_steps (l.n - l.k) l.rest ≡ are_steps l.n l.pairs;
  inside : 4 * (l.n - l.k) + 4 ≤ length l.rest;
}
