use Rattle.std.proofs.Common.{arith}
use Rattle.fx_fixed.proofs.Linear.{signed_linear}
use Rattle.fx_winding.proofs.Places.{high_from}
use Rattle.fx_winding.proofs.range.below_high.Goals as goal

pub returns : goal.returns
returns c = high_from c.args.q.a c.args.q.b c.args.q.c c.args.q.p c.before_turn.result (omega (arith, signed_linear))
    (omega (arith, signed_linear)) (omega (arith, signed_linear)) (omega (arith, signed_linear)) c.before_turn.ensures
