use Rattle.fx_winding.proofs.Meeting.{reversal_meets, shift_meets, inner_meets, lines_are_met, crossings_cancel}
use Rattle.fx_winding.proofs.laws.meeting.Goals as goal

pub returns-clause-reversal : goal.returns-clause-reversal
returns-clause-reversal c = reversal_meets

pub returns-clause-shift : goal.returns-clause-shift
returns-clause-shift c = shift_meets

pub returns-clause-inner : goal.returns-clause-inner
returns-clause-inner c = inner_meets

pub returns-clause-lines : goal.returns-clause-lines
returns-clause-lines c = lines_are_met

pub returns-clause-cancel : goal.returns-clause-cancel
returns-clause-cancel c = crossings_cancel
