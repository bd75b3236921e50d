use Rattle.std.proofs.Common.{ap}
use Rattle.std.proofs.lemmas.Result.{err_from_is_err_and}
use Rattle.fx_machine.specs.Prepared.{glyph_end, ran_of}
use Rattle.fx_machine.proofs.machine.run_from.Goals as goal

pub returns-in_err-steps-clause-value : goal.returns-in_err-steps-clause-value
unfolding glyph_end
returns-in_err-steps-clause-value g c =
    let p = err_from_is_err_and c.from_residual.result c.from_residual.ensures.1 in
    let ran = rw (c.restart.ensures, c.swap.ensures.x_after) at c.in_err-steps.ensures.value in
    rw (p.1, p.2) (λ go. ap ran_of (ran go))

pub returns-clause-value : goal.returns-clause-value
unfolding glyph_end
returns-clause-value g c =
    let ran = rw (c.restart.ensures, c.swap.ensures.x_after) at c.in_ok-steps.ensures.value in
    rw (c.from.ensures, c.strays.ensures, c.wish.ensures, c.swap-2.ensures.y_after) (λ go. ap ran_of (ran go))
