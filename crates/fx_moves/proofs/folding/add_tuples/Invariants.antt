use Rattle.std.proofs.Common.{◌≡◌, ◌-◌}
use Rattle.fx_moves.specs.Adding.{AreWithin, sums}
use Rattle.fx_moves.specs.Moves.{tuples_added}
use Rattle.fx_moves.proofs.folding.add_tuples.Given as goal

-- the tuples that are left add to the points what all do
abbrev pub invariant-tuples : goal.invariant-tuples
invariant-tuples l = record {
  same : tuples_added l.setting l.ends l.fn.second l.numbers (l.count - l.k) l.cursor l.points
      ≡ tuples_added l.setting l.ends l.fn.second l.numbers l.count l.initial.cursor l.initial.points;
  room : AreWithin l.k (sums l.points);
}
