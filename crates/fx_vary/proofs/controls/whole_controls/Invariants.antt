use Rattle.std.proofs.Common.{◌≡◌, ◌-◌, ◌/◌, ◌++◌, length}
use Rattle.std.specs.Prelude.{option_map}
use Rattle.fx_vary.specs.Shape.{all_moved}
use Rattle.fx_vary.specs.Controls.{control_moved, entries_from}
use Rattle.fx_vary.proofs.controls.whole_controls.Given as goal

-- the entries from k on, moved, are the rest of all values
abbrev pub invariant-entries : goal.invariant-entries
invariant-entries l = record {
  same : option_map (λ vs. l.values.items ++ vs)
      (all_moved control_moved l.points l.points (length l.values.items) (entries_from l.cvt l.k (length l.cvt / 2 - l.k)))
      ≡ all_moved control_moved l.points l.points 0 (entries_from l.cvt 0 (length l.cvt / 2));
  count : length l.values.items ≡ l.k;
}
