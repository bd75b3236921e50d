use Rattle.std.proofs.Common.{◌≡◌, ◌≤◌, not, take}
use Rattle.std.specs.List.{count_by}
use Rattle.fx_winding.specs.Winding.{place_of, span_of}
use Rattle.fx_dropout.specs.Decided.{is_missed}
use Rattle.fx_dropout.specs.inner.Pairs.{seen_span}
use Rattle.fx_dropout.proofs.work.count_near.Given as goal

abbrev pub invariant-pieces : goal.invariant-pieces
invariant-pieces l = record {
  counted : l.count ≡ count_by (λ q. not (is_missed (place_of l.first) (seen_span l.is_turned (span_of q))))
      (take l.piece-index l.piece-items);
  few : l.count ≤ l.piece-index;
}
