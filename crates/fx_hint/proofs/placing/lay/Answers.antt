use Rattle.std.proofs.Common.{◌∙◌}
use Rattle.fx_hint.proofs.Turning.{figure_plain}
use Rattle.fx_hint.proofs.placing.lay.Goals as goal

pub returns-then-is_plain : goal.returns-then-is_plain
returns-then-is_plain c = c.rest_shifted.ensures.value ∙ figure_plain _ _ _ (c.is_plain.ensures c.if-is_plain.true)
