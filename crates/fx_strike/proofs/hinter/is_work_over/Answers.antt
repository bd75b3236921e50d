use Rattle.std.proofs.Common.{arith, refl}
use Rattle.fx_strike.specs.Numbered.{is_work_over}
use Rattle.fx_strike.proofs.CarefulMachines.{work_not_over}
use Rattle.fx_strike.proofs.hinter.is_work_over.Goals as goal

pub returns-in-Some : goal.returns-in-Some
unfolding is_work_over
returns-in-Some c = rw (c.in-Ok.ensures, c.in-Some.is) c.is_glyph_over.ensures

pub returns-in-None : goal.returns-in-None
unfolding is_work_over
returns-in-None c = rw (c.in-Ok.ensures, c.in-None.is) refl

pub returns-in-Err-TooMuchWork : goal.returns-in-Err-TooMuchWork
unfolding is_work_over
returns-in-Err-TooMuchWork c = rw (rw c.in-Err-TooMuchWork.field-0-is at c.in-Err-TooMuchWork.ensures) refl

pub returns-in-Err : goal.returns-in-Err
returns-in-Err c = grind (arith, c.in-Err.ensures, c.in-Err.is, work_not_over)
