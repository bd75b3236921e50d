use Rattle.std.proofs.Common.{◌≡◌, ◌-◌}
use Rattle.fx_moves.specs.Giving.{all_given}
use Rattle.fx_moves.specs.Moves.{count_up}
use Rattle.fx_moves.proofs.moving.give_first.Given as goal

-- with the numbers that are left, the points become what all make of them
abbrev pub invariant-points : goal.invariant-points
invariant-points l =
    all_given (count_up l.number (l.count - l.number)) l.deltas l.points
    ≡ all_given (count_up 0 l.count) l.fn.deltas l.initial.points
