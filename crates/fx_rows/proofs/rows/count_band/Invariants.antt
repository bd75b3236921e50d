use Rattle.std.proofs.Common.{◌≡◌, ℕ, ◌+◌, ◌*◌, ◌<◌, ◌≤◌, pos, ◌+ℤ◌, map, take, false}
use Rattle.fx_winding.specs.Winding.{span_of, centre}
use Rattle.fx_rows.specs.inner.Sums.{AreWithin, AreTouched}
use Rattle.fx_rows.specs.inner.Bands.{stride, turns_at, mark_at, IsBeside}
use Rattle.fx_rows.specs.inner.Telling.{AreNotedIn, KeepsAfter, with_first}
use Rattle.fx_rows.proofs.Counted.{Counted}
use Rattle.fx_rows.proofs.rows.count_band.Given as goal

abbrev pub invariant-pieces : goal.invariant-pieces
invariant-pieces g l = record {
  frame : l.band.frame ≡ l.fn.band.frame;
  counted : (r k : ℕ) → r < l.fn.band.frame.height → k < l.fn.band.frame.width
      → Counted (centre (l.fn.band.frame.left +ℤ pos k) (l.fn.band.frame.bottom +ℤ pos r)) (map span_of l.pieces) l.piece-index
      (mark_at l.band (r * stride l.fn.band.frame.width + k)) (turns_at l.band (r * stride l.fn.band.frame.width + k));
  rest : (n : ℕ) → IsBeside l.fn.band.frame 0 l.fn.band.frame.height n → turns_at l.band n ≡ pos 0;
  unused : (n : ℕ) → IsBeside l.fn.band.frame 0 l.fn.band.frame.height n → mark_at l.band n ≡ false;
  touched : AreTouched l.band.diff.items l.band.touched.items;
  small : AreWithin (512 * l.piece-index) l.band.diff.items;
  kept : KeepsAfter (map span_of l.pieces) (g.N.Noting.Says l.fn.noter) (g.N.Noting.Says l.noter);
  noted : AreNotedIn (g.N.Noting.Says l.noter) (take l.piece-index (map span_of l.pieces)) l.rows.end;
  count : l.tally.count ≤ l.fn.tally.count + l.piece-index *
      ((12 + g.N.Noting.general + g.N.Noting.tests) * l.fn.band.frame.height + with_first l.rows.first (g.N.Noting.more l.frame));
}
