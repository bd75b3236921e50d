use Rattle.std.proofs.Common.{◌≤◌, ◌+◌, ◌-◌, ◌*◌}
use Rattle.fx_rows.specs.inner.Bands.{bounded_span}
use Rattle.fx_rows.specs.inner.Lines.{NotesRows}
use Rattle.fx_rows.proofs.bulge.note_met_lines.Given as goal

abbrev pub invariant-rows : goal.invariant-rows
invariant-rows l = record {
  notes : NotesRows (bounded_span l.bounded) l.lines l.fn.rows.first l.up l.fn.bits l.bits;
  count : l.tally.count ≤ l.fn.tally.count + 26 * (l.up - l.fn.rows.first);
}
