use Rattle.std.proofs.Common.{◌≤◌, ◌+◌, ◌-◌, ◌*◌}
use Rattle.fx_rows.specs.inner.Bands.{bounded_span}
use Rattle.fx_rows.specs.inner.Telling.{AreMetAdded}
use Rattle.fx_rows.proofs.add.add_general_rows.Given as goal

abbrev pub invariant-rows : goal.invariant-rows
invariant-rows g l = record {
  met : AreMetAdded (g.N.Noting.IsTold l.fn.noter) (g.N.Noting.IsTold l.noter) (g.N.Noting.Says l.fn.noter)
      (g.N.Noting.Says l.noter) (bounded_span l.bounded) l.fn.rows.first l.up l.fn.band l.band;
  count : l.tally.count ≤ l.fn.tally.count + (l.up - l.fn.rows.first) * (10 + g.N.Noting.general);
}
