use Rattle.fx_request.proofs.Rising.{rising_are_risen, risen_is_one}
use Rattle.fx_request.proofs.laws.rising.Goals as goal

pub returns : goal.returns
returns c = record { risen = rising_are_risen; one = risen_is_one }
