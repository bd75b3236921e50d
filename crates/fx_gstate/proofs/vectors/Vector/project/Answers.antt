use Rattle.std.proofs.Common.{FitsSigned, rules}
use Rattle.std.specs.Int.{w32}
use Rattle.fx_gstate.proofs.Axes.{on_x, on_y}
use Rattle.fx_gstate.proofs.vectors.Vector.project.Goals as goal

pub returns-then-is_along : goal.returns-then-is_along
returns-then-is_along c =
    let d : FitsSigned w32 c.args.d.x = search rules in
    on_x c.args.d d (c.is_along.ensures.0 (search (rules, c.if-is_along.true)))

pub returns-then-is_along-2 : goal.returns-then-is_along-2
returns-then-is_along-2 c =
    let d : FitsSigned w32 c.args.d.y = search rules in
    on_y c.args.d d (c.is_along-else-is_along.ensures.0 (search (rules, c.if-is_along-2.true)))
