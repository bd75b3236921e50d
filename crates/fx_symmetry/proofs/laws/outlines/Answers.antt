use Rattle.fx_symmetry.proofs.Frames.{moves_dropout_frame}
use Rattle.fx_symmetry.proofs.Outlines.{moves_spans, moves_drawn}
use Rattle.fx_symmetry.proofs.laws.outlines.Goals as goal

pub returns-clause-spans : goal.returns-clause-spans
returns-clause-spans c = moves_spans

pub returns-clause-bits : goal.returns-clause-bits
returns-clause-bits c = moves_drawn

pub returns-clause-frame : goal.returns-clause-frame
returns-clause-frame c = moves_dropout_frame
