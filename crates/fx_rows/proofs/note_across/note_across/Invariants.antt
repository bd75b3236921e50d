use Rattle.fx_winding.specs.Winding.{span_of}
use Rattle.fx_rows.specs.inner.Lines.{NotesAcross}
use Rattle.fx_rows.proofs.note_across.note_across.Given as goal

abbrev pub invariant-rows : goal.invariant-rows
invariant-rows l = record {
  notes : NotesAcross (span_of l.piece) l.placed.frame l.placed.inner.first l.row l.fn.across l.across;
}
