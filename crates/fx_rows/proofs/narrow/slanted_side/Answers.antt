use Rattle.std.proofs.Common.{subst}
use Rattle.fx_winding.specs.Winding.{span_of}
use Rattle.fx_rows.specs.inner.Arcs.{IsTurned}
use Rattle.fx_rows.proofs.narrow.slanted_side.Goals as goal

pub right_side-requires-clause-turned : goal.right_side-requires-clause-turned
right_side-requires-clause-turned c = subst (IsTurned (span_of c.args.piece.now)) c.if-right.true c.requires.turned

pub left_side-requires-clause-turned : goal.left_side-requires-clause-turned
left_side-requires-clause-turned c = subst (IsTurned (span_of c.args.piece.now)) c.if-right.false c.requires.turned
