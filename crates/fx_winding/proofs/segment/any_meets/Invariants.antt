use Rattle.std.proofs.Common.{All, take}
use Rattle.fx_winding.specs.Meets.{IsMet}
use Rattle.fx_winding.specs.Winding.{place_of, span_of}
use Rattle.fx_winding.proofs.segment.any_meets.Given as goal

abbrev pub invariant-pieces : goal.invariant-pieces
invariant-pieces l = All (λ s. ¬ (IsMet (place_of l.p) (place_of l.q) (span_of s))) (take l.piece-index l.pieces)
