use Rattle.std.proofs.Common.{◌≡◌, get_or, to_z, of_z, rules}
use Rattle.std.specs.Int.{w128}
use Rattle.fx_vary.specs.Shape.{blank}
use Rattle.fx_moves.proofs.Sums.{small_sum}
use Rattle.fx_vary.proofs.shape.sum_at.Goals as goal

pub returns-then-number-points-clause-small : goal.returns-then-number-points-clause-small
returns-then-number-points-clause-small c =
    let sum = (get_or c.args.points.now c.args.number blank).sum in
    let same : to_z w128 (of_z w128 sum) ≡ sum = search rules in
    rw same (small_sum c.args.points.now c.args.number blank c.requires c.if-number-points.true)
