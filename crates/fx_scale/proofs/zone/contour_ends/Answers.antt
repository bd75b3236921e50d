use Rattle.std.proofs.Common.{◌≡◌, refl, length, rules}
use Rattle.fx_scale.proofs.Ends.{ends_below_at}
use Rattle.fx_scale.proofs.zone.contour_ends.Goals as goal

pub returns-clause-below : goal.returns-clause-below
returns-clause-below c =
    let all : c.contours.numbers.items ≡ c.args.simple.now.ends = search rules in
    ends_below_at _ _ (length c.args.simple.now.points) _ c.ends-ends.ensures.in_order all refl
