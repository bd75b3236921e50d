use Rattle.std.proofs.Common.{sym, ◌∙◌}
use Rattle.fx_hint.proofs.Joined.{after_empty}
use Rattle.fx_hint.proofs.placing.join.Goals as goal

pub returns-then-len-eq0 : goal.returns-then-len-eq0
returns-then-len-eq0 c =
    c.swap.ensures.x_after
    ∙ after_empty c.args.zone.now c.args.more.now (sym c.len.ensures ∙ c.if-len-eq0.true)
    (rw c.ends-ends.ensures.value at c.ends-ends.ensures.below)
