use Rattle.std.proofs.Common.{◌∙◌}
use Rattle.fx_fixed.proofs.Writing.{taken_within, taken_more}
use Rattle.fx_fixed.proofs.sink.put_all.Goals as goal

pub piece-preserved : goal.piece-preserved
piece-preserved g c = record {
  within = taken_within _ _ _ c.piece.invariant.within c.in-Some.ensures.count;
  bytes = taken_more _ _ _ _ _ _ c.piece.invariant.bytes c.in-Some.ensures.bytes;
  faults = c.in-Some.ensures.quiet ∙ c.piece.invariant.faults;
}
