use Rattle.std.proofs.Common.{◌≡◌, ◌++◌, take}
use Rattle.std.specs.List.{flat_map}
use Rattle.fx_machine.specs.Words.{point_words, ArePoints}
use Rattle.fx_machine.proofs.words.push_points.Given as goal

abbrev pub invariant-points : goal.invariant-points
invariant-points l = record {
  done : l.words.items ≡ l.initial.words.items ++ flat_map point_words (take l.point-index l.points);
  numbered : ArePoints (take l.point-index l.points);
}
