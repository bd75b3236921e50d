use Rattle.fx_symmetry.proofs.Moved.{reversal_keeps_set}
use Rattle.fx_symmetry.proofs.Near.{moves_near_set}
use Rattle.fx_symmetry.proofs.Shifted.{shift_moves_set}
use Rattle.fx_symmetry.proofs.laws.dropout.Goals as goal

pub returns : goal.returns
returns c = record { nearer = moves_near_set; reversal = reversal_keeps_set; shift = shift_moves_set }
