use Rattle.std.proofs.Common.{◌∙◌}
use Rattle.fx_request.proofs.Rising.{risen_is_rising, sorted_is_rising}
use Rattle.fx_request.proofs.characters.rising_codes.Goals as goal

pub returns-then-is_rising : goal.returns-then-is_rising
returns-then-is_rising c = c.in_ok-codes.ensures.items ∙ risen_is_rising _ (c.is_rising.ensures c.if-is_rising.true)

pub returns : goal.returns
returns c = sorted_is_rising _ _ _ (c.in_ok-sorted.ensures).same (c.in_ok-sorted.ensures).sorted c.each_once.ensures
