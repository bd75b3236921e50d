use Rattle.std.proofs.lemmas.Result.{err_from_is_err_and}
use Rattle.fx_machine.proofs.Starting.{prep_ends, prep_halts, prep_unrun, prep_seen, prep_stopped}
use Rattle.fx_machine.proofs.machine.run_prelude.Goals as goal

pub returns-in_err-first-clause-value : goal.returns-in_err-first-clause-value
returns-in_err-first-clause-value g c go =
    let p = err_from_is_err_and c.from_residual.result c.from_residual.ensures.1 in
    prep_unrun _ _ c.requires.number _ _ _ _ _ p.1 p.2 (c.in_err-first.ensures.value go)

pub returns-in_err-second-clause-value : goal.returns-in_err-second-clause-value
returns-in_err-second-clause-value g c go =
    let p = err_from_is_err_and c.from_residual-in_err-second.result c.from_residual-in_err-second.ensures.1 in
    prep_halts _ _ _ _ _ c.requires.number (c.in_ok-first.ensures.value c.in_ok-first.ensures.unstopped) _ _ _ _ p.1 p.2
    (rw c.prepare.ensures at c.in_err-second.ensures.value go)

pub returns-clause-value : goal.returns-clause-value
returns-clause-value g c go =
    prep_ends _ _ _ _ _ c.requires.number (c.in_ok-first.ensures.value c.in_ok-first.ensures.unstopped) _ _ _ _ c.from.ensures
    c.strays.ensures (rw c.prepare.ensures at c.in_ok-second.ensures.value go)

pub returns-in_err-first-clause-watched : goal.returns-in_err-first-clause-watched
returns-in_err-first-clause-watched g c =
    prep_stopped g.W.Watching.Sees _ _ _ c.requires.number g.W.Watching.stops g.W.Watching.sees_no_more _ _ _
    c.in_err-first.ensures.value c.in_err-first.ensures.watched

pub returns-in_err-second-clause-watched : goal.returns-in_err-second-clause-watched
returns-in_err-second-clause-watched g c =
    prep_seen g.W.Watching.Sees _ _ _ c.requires.number _ _ _ _ _
    (c.in_ok-first.ensures.value c.in_ok-first.ensures.unstopped) c.in_ok-first.ensures.watched
    (rw c.prepare.ensures at c.in_err-second.ensures.watched)

pub returns-clause-watched : goal.returns-clause-watched
returns-clause-watched g c =
    prep_seen g.W.Watching.Sees _ _ _ c.requires.number _ _ _ _ _
    (c.in_ok-first.ensures.value c.in_ok-first.ensures.unstopped) c.in_ok-first.ensures.watched
    (rw c.prepare.ensures at c.in_ok-second.ensures.watched)
