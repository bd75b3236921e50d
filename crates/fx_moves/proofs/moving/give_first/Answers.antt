use Rattle.std.proofs.Common.{rules, ◌≡◌, ◌∙◌, ap, to_z, of_z}
use Rattle.std.specs.Int.{w16}
use Rattle.fx_moves.specs.Giving.{one_given}
use Rattle.fx_moves.proofs.Counting.{counted_more, counted_end}
use Rattle.fx_moves.proofs.moving.give_first.Goals as goal

pub points-preserved : goal.points-preserved
points-preserved c =
    let delta : to_z w16 (of_z w16 c.in-Some.delta) ≡ c.in-Some.delta = search rules in
    counted_more _ _ _ _ _ _ _ _ c.points-test.true c.in-Some.ensures.steps
    (c.give_one.ensures ∙ ap (λ d. one_given c.points.number d c.points.points) delta) c.points.invariant

pub returns : goal.returns
returns c = counted_end _ _ _ _ _ c.points-test.false c.points.invariant
