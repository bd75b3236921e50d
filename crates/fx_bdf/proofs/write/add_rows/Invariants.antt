use Rattle.std.proofs.Common.{◌-◌, ◌≤◌, length, take}
use Rattle.std.specs.List.{flat_map}
use Rattle.std.specs.Prelude.{Ok}
use Rattle.fx_fixed.specs.Texts.{Adds, Fails}
use Rattle.fx_bdf.specs.Text.{row_text}
use Rattle.fx_bdf.proofs.write.add_rows.Given as goal

-- the rows so far were added
abbrev pub invariant-lines : goal.invariant-lines
invariant-lines g l = record {
  added : Adds Fails l.fn.text l.text (flat_map row_text (take l.i l.rows)) (Ok tt);
  inside : l.i ≤ length l.rows;
}

abbrev pub decreases-lines : goal.decreases-lines
decreases-lines g l = length l.rows - l.i
