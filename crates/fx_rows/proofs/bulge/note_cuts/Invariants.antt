use Rattle.std.proofs.Common.{◌<◌}
use Rattle.fx_rows.specs.inner.Bands.{bounded_span}
use Rattle.fx_rows.specs.inner.Lines.{NotesRows}
use Rattle.fx_rows.specs.inner.Strips.{edge_place, edge_of}
use Rattle.fx_rows.proofs.bulge.note_cuts.Given as goal

abbrev pub invariant-rows : goal.invariant-rows
invariant-rows g l = record {
  notes : NotesRows (bounded_span l.bounded) l.lines l.fn.rows.first l.up l.fn.bits l.bits;
  at : l.up < l.fn.rows.end → g.C.Cuts.AreAt l.cuts l.bounded (edge_place l.lines.frame l.up) (edge_of l.lines.frame);
}
