use Rattle.std.proofs.Common.{drop, map}
use Rattle.fx_winding.specs.Winding.{span_of}
use Rattle.fx_contour.proofs.Growing.{Remains}
use Rattle.fx_contour.proofs.bounds.PieceBounds.of.Given as goal

abbrev pub invariant-pieces : goal.invariant-pieces
invariant-pieces l = Remains l.bounds (map span_of l.pieces) (map span_of (drop l.piece-index l.pieces))
