use Rattle.fx_strike.specs.Title.{title_of}
use Rattle.fx_strike.proofs.Exits.{came}
use Rattle.fx_strike.proofs.Prepared.{due_cause, due_ok, late_on, opened_then, prepared_late, plan_unset, plan_set}
use Rattle.fx_strike.proofs.make.survey.Goals as goal

pub returns-in_err-striker-clause-cause : goal.returns-in_err-striker-clause-cause
returns-in_err-striker-clause-cause g c =
    rw (came c.from_residual.result c.from_residual.ensures.1)
    (plan_unset _ _ _ _ c.args.request.now.mode _ _ c.open.ensures.due (c.in_err-striker.ensures).setting)

pub returns-clause-survey : goal.returns-clause-survey
returns-clause-survey g c =
    rw (plan_set _ _ (title_of c.args.request.now) _ c.args.request.now.mode _ c.open.ensures.due
    (c.in_ok-striker.ensures).setting)
    (due_ok _ _ c.survey_chars.result (c.survey_chars.ensures.survey (title_of c.args.request.now)))

pub returns-clause-cause : goal.returns-clause-cause
returns-clause-cause g c =
    rw (plan_set _ _ (title_of c.args.request.now) _ c.args.request.now.mode _ c.open.ensures.due
    (c.in_ok-striker.ensures).setting)
    (due_cause _ _ c.survey_chars.result (c.survey_chars.ensures.survey (title_of c.args.request.now)))

pub returns-clause-late : goal.returns-clause-late
returns-clause-late g c memory = prepared_late _ c.open.ensures.due (c.in_ok-striker.ensures).setting

pub returns-in_err-striker-clause-late : goal.returns-in_err-striker-clause-late
returns-in_err-striker-clause-late g c =
    rw (came c.from_residual.result c.from_residual.ensures.1)
    (late_on _ _ _ c.open.ensures.due (c.in_err-striker.ensures).late)

pub survey_chars-requires : goal.survey_chars-requires
survey_chars-requires g c = record {
  chars = opened_then _ c.open.result c.args.request.now.mode (c.in_ok-striker.ensures).setting c.open.ensures.passed;
}
