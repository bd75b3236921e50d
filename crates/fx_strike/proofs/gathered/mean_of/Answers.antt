use Rattle.std.proofs.Common.{arith}
use Rattle.std.proofs.lemmas.Int.{ints}
use Rattle.fx_strike.proofs.GatheredGlyphs.{mean_is}
use Rattle.fx_strike.proofs.gathered.mean_of.Goals as goal

pub overflow_cast-result : goal.overflow_cast-result
overflow_cast-result c =
    (mean_is c.args.total c.args.count _ _ c.near.result c.near.ensures.value (omega (arith, ints)) (omega (arith, ints))
    (omega arith) c.requires).0

pub returns : goal.returns
returns c =
    (mean_is c.args.total c.args.count _ _ c.near.result c.near.ensures.value (omega (arith, ints)) (omega (arith, ints))
    (omega arith) c.requires).1
