use Rattle.fx_winding.specs.Winding.{span_of}
use Rattle.fx_rows.specs.inner.Lines.{NotesUp}
use Rattle.fx_rows.specs.inner.Upward.{ComesFrom}
use Rattle.fx_rows.proofs.note_up.note_passage.Given as goal

abbrev pub invariant-rows : goal.invariant-rows
invariant-rows l = record {
  from : ComesFrom (span_of l.piece) l.placed.frame l.row l.low;
  notes : NotesUp (span_of l.piece) l.placed.frame l.placed.inner.first l.row l.fn.up l.up;
}
