use Rattle.std.proofs.Common.{refl}
use Rattle.std.proofs.KnownBytes.{Keeps-refl}
use Rattle.fx_strike.proofs.Exits.{came}
use Rattle.fx_strike.proofs.Making.{fails_leaves, makes}
use Rattle.fx_strike.proofs.Prepared.{late_on, opened_then, plan_set, plan_unset, prepared_late}
use Rattle.fx_strike.proofs.Telling.{untold}
use Rattle.fx_strike.proofs.make.make_strike_in.Goals as goal

pub returns-in_err-striker-clause-made : goal.returns-in_err-striker-clause-made
returns-in_err-striker-clause-made g c =
    rw (came c.from_residual.result c.from_residual.ensures.1)
    (makes _ (late_on _ _ _ c.open.ensures.due (c.in_err-striker.ensures).late)
    (fails_leaves _ _ _ (Keeps-refl _) refl
    (plan_unset _ _ _ _ c.args.request.now.mode _ _ c.open.ensures.due (c.in_err-striker.ensures).setting)))

pub returns-clause-made : goal.returns-clause-made
returns-clause-made g c =
    rw (plan_set _ _ _ _ c.args.request.now.mode _ c.open.ensures.due (c.in_ok-striker.ensures).setting)
    (makes _ (λ m. prepared_late _ c.open.ensures.due (c.in_ok-striker.ensures).setting)
    (rw c.set_room.ensures at c.write_strike.ensures.leaves))

pub returns-in_err-striker-clause-told : goal.returns-in_err-striker-clause-told
returns-in_err-striker-clause-told g c =
    rw (came c.from_residual.result c.from_residual.ensures.1)
    (untold _ _ refl (plan_unset _ _ _ _ c.args.request.now.mode _ _ c.open.ensures.due (c.in_err-striker.ensures).setting))

pub returns-clause-told : goal.returns-clause-told
returns-clause-told g c =
    rw (plan_set _ _ _ _ c.args.request.now.mode _ c.open.ensures.due (c.in_ok-striker.ensures).setting)
    (rw c.set_room.ensures at c.write_strike.ensures.heard)

pub write_strike-requires-clause-chars : goal.write_strike-requires-clause-chars
write_strike-requires-clause-chars g c =
    opened_then _ c.open.result c.args.request.now.mode (c.in_ok-striker.ensures).setting c.open.ensures.passed

pub write_strike-requires-clause-title : goal.write_strike-requires-clause-title
write_strike-requires-clause-title g c =
    opened_then _ c.open.result c.args.request.now.mode (c.in_ok-striker.ensures).setting c.open.ensures.title
