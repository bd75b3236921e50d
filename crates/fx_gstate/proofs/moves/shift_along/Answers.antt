use Rattle.std.proofs.Common.{FitsSigned, rules, ◌∙◌}
use Rattle.std.specs.Int.{w32}
use Rattle.fx_gstate.proofs.Axes.{shift_x, shift_y}
use Rattle.fx_gstate.proofs.moves.shift_along.Goals as goal

pub returns-then-is_along-2 : goal.returns-then-is_along-2
returns-then-is_along-2 c =
    let d : FitsSigned w32 c.args.d = search rules in
    c.on.ensures ∙ shift_x c.args.d d (c.is_along.ensures.0 (search (rules, c.if-is_along.true)))
    (c.is_along-then-is_along.ensures.0 (search (rules, c.if-is_along-2.true)))

pub returns-then-is_along-4 : goal.returns-then-is_along-4
returns-then-is_along-4 c =
    let d : FitsSigned w32 c.args.d = search rules in
    c.on-then-is_along-4.ensures
    ∙ shift_y c.args.d d (c.is_along-2.ensures.0 (search (rules, c.if-is_along-3.true)))
    (c.is_along-then-is_along-3.ensures.0 (search (rules, c.if-is_along-4.true)))
