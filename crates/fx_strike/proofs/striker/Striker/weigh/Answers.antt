use Rattle.std.proofs.Common.{rules}
use Rattle.fx_strike.proofs.Weighing.{weighed_over, weighed_drawn}
use Rattle.fx_strike.proofs.striker.Striker.weigh.Goals as goal

pub returns-then-is_none-clause-weighed : goal.returns-then-is_none-clause-weighed
returns-then-is_none-clause-weighed g c =
    weighed_over _ _ c.args.m c.args.budget.now c.filled.result c.min-most.result c.saturating_sub.result c.in_ok-left.left
    c.filled.ensures c.min-most.ensures (c.in_ok-left.ensures).left (search rules) (search rules)

pub returns-clause-weighed : goal.returns-clause-weighed
returns-clause-weighed g c =
    rw (weighed_drawn _ _ c.args.m c.args.budget.now c.filled.result c.min-most.result c.saturating_sub.result c.in_ok-left.left
    c.filled.ensures c.min-most.ensures (c.in_ok-left.ensures).left (search rules) (search rules))
    (rw (c.in_ok-left.ensures).kept at c.weigh_drawing.ensures.weighed)
