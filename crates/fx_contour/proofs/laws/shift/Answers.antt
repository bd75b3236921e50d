use Rattle.fx_contour.proofs.Shifted.{shift_moves_spans, shift_moves_bits_of}
use Rattle.fx_contour.proofs.laws.shift.Goals as goal

pub returns-clause-spans : goal.returns-clause-spans
returns-clause-spans c = shift_moves_spans

pub returns-clause-bits : goal.returns-clause-bits
returns-clause-bits c = shift_moves_bits_of
