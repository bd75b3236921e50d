use Rattle.std.proofs.Common.{arith}
use Rattle.fx_fixed.proofs.Linear.{signed_linear}
use Rattle.fx_dropout.proofs.places.Places.add_part.Goals as goal

pub returns-clause-counts : goal.returns-clause-counts
returns-clause-counts c = λ n l.
    let a = c.add_run.ensures.counts n l in
    let b = c.add_run-2.ensures.counts n l in
    let d = c.mark_on.ensures.counts n in
    omega (arith, signed_linear, a, b, d)
