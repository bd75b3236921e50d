use Rattle.std.proofs.Common.{arith}
use Rattle.fx_strike.proofs.Fates.{fate_by_cause, fate_left_out}
use Rattle.fx_strike.proofs.Sketching.{fails_on}
use Rattle.fx_strike.proofs.striker.Striker.fate_refused.Goals as goal

pub returns-in-Halted-clause-fate : goal.returns-in-Halted-clause-fate
returns-in-Halted-clause-fate g c f = grind (arith, c.in-Halted.is, c.fate_halted.ensures.fate, fate_by_cause)

pub returns-in-Stop-clause-fate : goal.returns-in-Stop-clause-fate
returns-in-Stop-clause-fate g c f =
    rw c.in-Stop.is (fails_on _ _ _ (λ e h. fate_by_cause c.args.self.now _ c.args.m.code c.args.m.glyph e h) f)

pub returns-in-LeaveOut-clause-fate : goal.returns-in-LeaveOut-clause-fate
returns-in-LeaveOut-clause-fate g c f = grind (arith, c.left_out.ensures, c.in-LeaveOut.is, fate_left_out)
