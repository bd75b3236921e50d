use Rattle.std.proofs.Common.{◌∙◌}
use Rattle.std.proofs.lemmas.Result.{err_from_is_err_and}
use Rattle.fx_machine.proofs.Starting.{run_halts, run_ends, run_seen, halt_seen}
use Rattle.fx_machine.proofs.machine.first_run.Goals as goal

pub returns-in_err-prelude-clause-value : goal.returns-in_err-prelude-clause-value
returns-in_err-prelude-clause-value g c go =
    let p = err_from_is_err_and c.from_residual-in_err-prelude.result c.from_residual-in_err-prelude.ensures.1 in
    run_halts _ _ _ (c.deref_mut.ensures.value ∙ c.in_ok-state.ensures) _ _ _ _ p.1 p.2 (c.in_err-prelude.ensures.value go)

pub returns-in_err-prelude-clause-watched : goal.returns-in_err-prelude-clause-watched
returns-in_err-prelude-clause-watched g c =
    let p = err_from_is_err_and c.from_residual-in_err-prelude.result c.from_residual-in_err-prelude.ensures.1 in
    halt_seen _ _ _ (c.deref_mut.ensures.value ∙ c.in_ok-state.ensures) g.W.Watching.Sees _ _ _ _ _ p.1 p.2
    c.run_and_take.ensures.watched

pub returns-clause-value : goal.returns-clause-value
returns-clause-value g c go =
    run_ends _ _ _ (c.deref_mut.ensures.value ∙ c.in_ok-state.ensures) _ _ (c.in_ok-prelude.ensures.value go)

pub returns-clause-watched : goal.returns-clause-watched
returns-clause-watched g c =
    run_seen _ _ _ (c.deref_mut.ensures.value ∙ c.in_ok-state.ensures) g.W.Watching.Sees _ _ c.run_and_take.ensures.watched
