use Rattle.fx_winding.proofs.Shifts.{shift_moves_cover, shift_moves_bits}
use Rattle.fx_winding.proofs.laws.shift.Goals as goal

pub returns-clause-cover : goal.returns-clause-cover
returns-clause-cover c = shift_moves_cover

pub returns-clause-bits : goal.returns-clause-bits
returns-clause-bits c = shift_moves_bits
