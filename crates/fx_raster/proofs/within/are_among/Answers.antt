use Rattle.std.proofs.Common.{arith, to_z, of_z, to_z-of_z, FitsSigned}
use Rattle.std.specs.Int.{w32, w64}
use Rattle.std.proofs.lemmas.Int.{ints}
use Rattle.fx_raster.proofs.Inside.{among_is}
use Rattle.fx_raster.proofs.within.are_among.Goals as goal

pub returns-then-other-first : goal.returns-then-other-first
returns-then-other-first c =
    let f : FitsSigned w32 c.args.first = c.ranges.first in
    let o : FitsSigned w32 c.args.other = c.ranges.other in
    among_is (to_z w64 (of_z w64 c.end_of.result)) (to_z w64 (of_z w64 c.end_of-then-other-first.result)) c.args.first c.args.other
    c.args.count c.args.more (omega (arith, ints)) (omega (arith, ints)) (simp to_z-of_z at c.if-other-first.true)
