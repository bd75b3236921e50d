use Rattle.fx_raster.proofs.Moved.{shift_moves_picture, reversal_keeps_picture}
use Rattle.fx_raster.proofs.laws.moves.Goals as goal

pub returns-clause-shift : goal.returns-clause-shift
returns-clause-shift c = shift_moves_picture c.shift.ensures.bits

pub returns-clause-reversal : goal.returns-clause-reversal
returns-clause-reversal c = reversal_keeps_picture c.reversal.ensures.bits
