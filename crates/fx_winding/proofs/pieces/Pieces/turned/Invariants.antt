use Rattle.std.proofs.Common.{◌≡◌, length, map, take}
use Rattle.fx_winding.specs.Turned.{turned_span}
use Rattle.fx_winding.specs.Winding.{span_of}
use Rattle.fx_winding.proofs.pieces.Pieces.turned.Given as goal

abbrev pub invariant-pieces : goal.invariant-pieces
invariant-pieces l = record {
  long : length l.turned ≡ l.piece-index;
  same : map span_of l.turned ≡ map (λ s. turned_span (span_of s)) (take l.piece-index l.piece-items);
}
