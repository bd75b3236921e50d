use Rattle.std.proofs.Common.{◌≤◌, ◌<◌, ◌+◌, ◌-◌}
use Rattle.fx_rows.specs.inner.Strips.{base_place, end_of}
use Rattle.fx_rows.specs.inner.Bands.{bounded_span}
use Rattle.fx_rows.specs.inner.Telling.{AreRowsAdded, Keeps}
use Rattle.fx_rows.proofs.add.add_cuts.Given as goal

abbrev pub invariant-rows : goal.invariant-rows
invariant-rows g l = record {
  added : AreRowsAdded (g.N.Noting.IsTold l.noter) (bounded_span l.bounded) l.fn.rows.first l.up l.fn.band l.band;
  kept : Keeps (g.N.Noting.Says l.fn.noter) (g.N.Noting.Says l.noter);
  count : l.tally.count ≤ l.fn.tally.count + (l.up - l.fn.rows.first);
  at : l.up < l.fn.rows.end → g.C.Cuts.AreAt l.cuts l.bounded (base_place l.fn.band.frame l.up) (end_of l.fn.band.frame);
}
