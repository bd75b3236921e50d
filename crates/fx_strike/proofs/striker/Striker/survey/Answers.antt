use Rattle.std.proofs.Common.{sym}
use Rattle.fx_strike.specs.Title.{no_title}
use Rattle.fx_strike.specs.Headline.{nameless_with}
use Rattle.fx_strike.proofs.Exits.{came}
use Rattle.fx_strike.proofs.Making.{fails_cause}
use Rattle.fx_strike.proofs.Prepared.{due_cause, due_ok}
use Rattle.fx_strike.proofs.striker.Striker.survey.Goals as goal

pub returns-in_err-check_chars-clause-cause : goal.returns-in_err-check_chars-clause-cause
unfolding nameless_with
returns-in_err-check_chars-clause-cause g c =
    rw (came c.from_residual.result c.from_residual.ensures.1)
    (fails_cause _ _ (c.in_err-check_chars.ensures).named (rw (sym (c.in_err-check_chars.ensures).due)))

pub returns-clause-survey : goal.returns-clause-survey
unfolding nameless_with
returns-clause-survey g c =
    rw (sym (c.in_ok-check_chars.ensures).due) (due_ok _ _ c.survey_chars.result (c.survey_chars.ensures.survey no_title))

pub returns-clause-cause : goal.returns-clause-cause
unfolding nameless_with
returns-clause-cause g c =
    rw (sym (c.in_ok-check_chars.ensures).due) (due_cause _ _ c.survey_chars.result (c.survey_chars.ensures.survey no_title))
