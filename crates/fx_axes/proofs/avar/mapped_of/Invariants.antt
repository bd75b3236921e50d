use Rattle.std.proofs.Common.{◌≡◌, ◌+◌, ◌*◌, ◌-◌, ◌≤◌, ◌≤ℤ◌, pos, true, length}
use Rattle.fx_axes.specs.Avar.{are_steps, least, mapping_of, mapped_of}
use Rattle.fx_axes.proofs.avar.mapped_of.Given as goal

-- the coordinate goes where it does by the pairs that are left
abbrev pub invariant-pairs : goal.invariant-pairs
invariant-pairs l = record {
  same : mapped_of l.whole l.past (l.n - l.k) l.rest ≡ mapped_of l.whole l.initial.past l.n l.pairs;
  inside : 4 * (l.n - l.k) + 4 ≤ length l.rest;
  steps : are_steps (l.n - l.k) l.rest ≡ true;
  least : least ≤ℤ (mapping_of l.rest).to;
  most : (mapping_of l.rest).to ≤ℤ pos 16384;
}
