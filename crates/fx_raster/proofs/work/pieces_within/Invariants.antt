use Rattle.std.proofs.Common.{◌≡◌, ◌+◌, ◌≤◌, take}
use Rattle.std.specs.List.{sum_by}
use Rattle.fx_winding.specs.Winding.{span_of}
use Rattle.fx_raster.specs.Work.{piece_work}
use Rattle.fx_raster.proofs.work.pieces_within.Given as goal

abbrev pub invariant-pieces : goal.invariant-pieces
invariant-pieces l = record {
  counted : l.work ≡ l.before + sum_by (λ p. piece_work l.rule (span_of p)) (take l.piece-index l.piece-items);
  few : l.work ≤ l.most;
}
