use Rattle.std.proofs.Common.{◌∙◌}
use Rattle.fx_strike.specs.Strike.{plan_with}
use Rattle.fx_strike.proofs.Weighing.{restored}
use Rattle.fx_strike.proofs.striker.Striker.survey_chars.Goals as goal

pub returns-clause-kept : goal.returns-clause-kept
returns-clause-kept g c =
    restored c.args.self.now _ _ _ _ (c.self.view_is ∙ c.survey_within-result.ensures.kept ∙ (c.in_ok-before.ensures).bounds.0)
    (c.in_ok-before.ensures).bounds.1

pub returns-clause-survey : goal.returns-clause-survey
unfolding plan_with
returns-clause-survey g c = rw (c.in_ok-before.ensures).bounds.0 at c.survey_within-result.ensures.survey
