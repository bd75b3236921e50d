use Rattle.std.proofs.Common.{◌≤◌, ◌+◌, ◌-◌, ◌*◌, length, map}
use Rattle.fx_winding.specs.Winding.{span_of}
use Rattle.fx_rows.specs.inner.Bands.{AreScanned}
use Rattle.fx_rows.specs.inner.Telling.{AreNotedIn, KeepsAfter, with_first}
use Rattle.fx_rows.proofs.rows.scan_noting.Given as goal

abbrev pub invariant-bands : goal.invariant-bands
invariant-bands g l = record {
  within : l.from ≤ l.frame.height;
  scanned : AreScanned (map span_of l.pieces) l.frame.left l.frame.bottom l.frame.width l.from l.words.items;
  kept : KeepsAfter (map span_of l.pieces) (g.N.Noting.Says l.fn.noter) (g.N.Noting.Says l.noter);
  noted : AreNotedIn (g.N.Noting.Says l.noter) (map span_of l.pieces) l.from;
  count : l.tally.count + length l.pieces * with_first l.from (g.N.Noting.more l.frame) ≤
      l.fn.tally.count + (length l.pieces * ((12 + g.N.Noting.general + g.N.Noting.tests) * l.from)
      + length l.pieces * g.N.Noting.more l.frame);
}

abbrev pub decreases-bands : goal.decreases-bands
decreases-bands g l = l.frame.height - l.from
