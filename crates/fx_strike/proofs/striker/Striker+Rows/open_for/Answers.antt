use Rattle.fx_strike.specs.Strike.{setting_for}
use Rattle.fx_strike.specs.Strike.{setting_after}
use Rattle.fx_strike.proofs.Prepared.{gives_cause, gives_ok, gives_on}
use Rattle.fx_strike.proofs.striker.Striker+Rows.open_for.Goals as goal

pub returns-clause-setting : goal.returns-clause-setting
unfolding setting_for setting_after
returns-clause-setting c = rw (← c.open_many.ensures.due) (gives_ok _ _ c.of.result c.of.ensures.setting)

pub returns-clause-chars : goal.returns-clause-chars
returns-clause-chars c = gives_on _ _ _ c.of.result c.of.ensures.setting c.open_many.ensures.passed

pub returns-clause-cause : goal.returns-clause-cause
unfolding setting_for setting_after
returns-clause-cause c = rw (← c.open_many.ensures.due) (gives_cause _ _ c.of.result c.of.ensures.setting)

pub returns-clause-late : goal.returns-clause-late
returns-clause-late c = rw c.open_many.ensures.due at c.of.ensures.late
