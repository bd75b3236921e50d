use Rattle.std.proofs.Common.{ℕ, ◌-◌, ◌<◌, ◌≤◌}
use Rattle.fx_winding.specs.Winding.{span_of}
use Rattle.fx_rows.specs.inner.Cuts.{CountsAt}
use Rattle.fx_rows.specs.inner.Sides.{end_at, place_at}
use Rattle.fx_rows.specs.inner.Walks.{IsSpot}
use Rattle.fx_rows.proofs.walk.to_end.Given as goal

abbrev pub invariant-right : goal.invariant-right
invariant-right l = record {
  at : IsSpot l.here l.piece (place_at l.strip 0) (end_at l.strip);
  inside : (k : ℕ) → k < l.here.k → CountsAt (span_of l.piece) l.arc.right l.strip k;
}

abbrev pub decreases-right : goal.decreases-right
decreases-right l = l.strip.stop - l.here.k

abbrev pub invariant-left : goal.invariant-left
invariant-left l = record {
  at : IsSpot l.here l.piece (place_at l.strip 0) (end_at l.strip);
  outside : (k : ℕ) → l.here.k ≤ k → k < l.strip.stop → ¬ (CountsAt (span_of l.piece) l.arc.right l.strip k);
}

abbrev pub decreases-left : goal.decreases-left
decreases-left l = l.here.k
