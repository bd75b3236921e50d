use Rattle.std.proofs.Common.{arith}
use Rattle.fx_fixed.proofs.Texts.{adds_nothing}
use Rattle.fx_strike.proofs.Lines.{no_lines, adds_part}
use Rattle.fx_strike.proofs.striker.Striker.write_fate.Goals as goal

pub returns-in-LeftOut-clause-lines : goal.returns-in-LeftOut-clause-lines
returns-in-LeftOut-clause-lines g c = rw c.in-LeftOut.is (adds_part (omega arith) no_lines adds_nothing)
