use Rattle.std.proofs.Common.{◌≡◌, drop}
use Rattle.fx_cmap.specs.Lookup.{chosen_of}
use Rattle.fx_cmap.proofs.records.chosen.Given as goal

-- the first candidate with a subtable among those that are left is that among all
abbrev pub invariant-candidates : goal.invariant-candidates
invariant-candidates l = chosen_of l.cmap (drop l.candidate-index l.candidates) ≡ chosen_of l.cmap l.candidates
