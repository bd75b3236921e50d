use Rattle.fx_views.specs.Outlines.{outlined_of}
use Rattle.fx_strike.proofs.Exits.{came}
use Rattle.fx_strike.proofs.Prepared.{late_on, prepared, prepared_late, unprepared}
use Rattle.fx_views.proofs.outlines.outlined.Goals as goal

pub returns-in_err-striker-clause-outline : goal.returns-in_err-striker-clause-outline
unfolding outlined_of
returns-in_err-striker-clause-outline c =
    rw (came c.from_residual.result c.from_residual.ensures.1)
    (unprepared _ _ _ c.open_choice.ensures.due (c.in_err-striker.ensures).setting)

pub returns-clause-outline : goal.returns-clause-outline
unfolding outlined_of
returns-clause-outline c =
    let x = prepared c.open_choice.ensures.due (c.in_ok-striker.ensures).setting in
    rw (x.is, x.setting) c.outline_chosen.ensures.outline

pub returns-clause-late : goal.returns-clause-late
returns-clause-late c memory = prepared_late _ c.open_choice.ensures.due (c.in_ok-striker.ensures).setting

pub returns-in_err-striker-clause-late : goal.returns-in_err-striker-clause-late
returns-in_err-striker-clause-late c =
    rw (came c.from_residual.result c.from_residual.ensures.1)
    (late_on _ _ _ c.open_choice.ensures.due (c.in_err-striker.ensures).late)
