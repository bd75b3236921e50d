use Rattle.std.proofs.Common.{◌+◌, ◌*◌, ◌≤◌, ◌<◌, ℕ, map}
use Rattle.fx_winding.specs.Winding.{span_of}
use Rattle.fx_rows.proofs.Counted.{Counted}
use Rattle.fx_dropout.specs.inner.Pairs.{seen_spans}
use Rattle.fx_dropout.specs.inner.Places.{count_at, mark_at, place_in}
use Rattle.fx_dropout.proofs.nearer.places_of.Given as goal

abbrev pub invariant-pieces : goal.invariant-pieces
invariant-pieces l = record {
  counted : (n : ℕ) → n < 128 → Counted (place_in l.pair n) (seen_spans l.is_turned (map span_of l.piece-items)) l.piece-index
      (mark_at l.places n) (count_at l.places n);
  tests : l.tally.count ≤ l.fn.tally.count + 10 * l.piece-index;
}
