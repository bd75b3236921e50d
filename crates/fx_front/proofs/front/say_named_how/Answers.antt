use Rattle.std.proofs.Common.{◌∙◌, sym}
use Rattle.fx_front.proofs.front.say_named_how.Goals as goal

pub returns-then-has_slash-clause-told : goal.returns-then-has_slash-clause-told
returns-then-has_slash-clause-told g c = rw (sym c.has_slash.ensures ∙ c.if-has_slash.true) c.say.ensures.told

pub returns-else-has_slash-clause-told : goal.returns-else-has_slash-clause-told
returns-else-has_slash-clause-told g c = rw (sym c.has_slash.ensures ∙ c.if-has_slash.false) c.say-else-has_slash.ensures.told
