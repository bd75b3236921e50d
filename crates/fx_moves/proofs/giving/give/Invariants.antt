use Rattle.std.proofs.Common.{◌≡◌}
use Rattle.fx_moves.specs.Giving.{all_given}
use Rattle.fx_moves.proofs.giving.give.Given as goal

-- with the numbers that are left, the points become what all make of them
abbrev pub invariant-pairs : goal.invariant-pairs
invariant-pairs l = all_given l.number-iterator l.deltas l.points ≡ all_given l.fn.numbers l.fn.deltas l.initial.points
