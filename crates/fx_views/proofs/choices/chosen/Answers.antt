use Rattle.fx_views.specs.Choices.{choice_of}
use Rattle.fx_strike.proofs.Exits.{came}
use Rattle.fx_strike.proofs.Prepared.{late_on, opened_then, prepared, prepared_late, unprepared}
use Rattle.fx_views.proofs.choices.chosen.Goals as goal

pub returns-in_err-striker-clause-cause : goal.returns-in_err-striker-clause-cause
unfolding choice_of
returns-in_err-striker-clause-cause c =
    rw (came c.from_residual.result c.from_residual.ensures.1)
    (unprepared _ _ _ c.open_choice.ensures.due (c.in_err-striker.ensures).setting)

pub returns-in_err-striker-clause-late : goal.returns-in_err-striker-clause-late
returns-in_err-striker-clause-late c =
    rw (came c.from_residual.result c.from_residual.ensures.1)
    (late_on _ _ _ c.open_choice.ensures.due (c.in_err-striker.ensures).late)

pub drawn-requires : goal.drawn-requires
drawn-requires c = opened_then _ _ _ (c.in_ok-striker.ensures).setting c.open_choice.ensures.passed

pub returns-clause-glyph : goal.returns-clause-glyph
unfolding choice_of
returns-clause-glyph c =
    let x = prepared c.open_choice.ensures.due (c.in_ok-striker.ensures).setting in
    rw (x.is, x.setting) c.drawn.ensures.glyph

pub returns-clause-cause : goal.returns-clause-cause
unfolding choice_of
returns-clause-cause c =
    let x = prepared c.open_choice.ensures.due (c.in_ok-striker.ensures).setting in
    rw (x.is, x.setting) c.drawn.ensures.cause

pub returns-clause-late : goal.returns-clause-late
returns-clause-late c memory = prepared_late _ c.open_choice.ensures.due (c.in_ok-striker.ensures).setting
