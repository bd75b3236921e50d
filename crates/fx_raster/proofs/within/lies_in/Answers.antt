use Rattle.fx_raster.proofs.Inside.{lies_inside}
use Rattle.fx_raster.proofs.within.lies_in.Goals as goal

pub returns-in-Some-clause-pixels : goal.returns-in-Some-clause-pixels
returns-in-Some-clause-pixels c within col row inside =
    lies_inside c.args.frame c.args.region (rw c.in-Some.is (rw c.sides_lie_in.ensures at within)) col row inside
