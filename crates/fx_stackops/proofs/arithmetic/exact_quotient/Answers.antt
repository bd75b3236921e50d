use Rattle.std.proofs.Common.{arith}
use Rattle.std.proofs.lemmas.Int.{ints}
use Rattle.fx_stackops.proofs.Products.{quotient_is}
use Rattle.fx_stackops.proofs.arithmetic.exact_quotient.Goals as goal

pub returns : goal.returns
returns c = quotient_is _ _ c.from.result c.from-2.result (omega (arith, ints)) (omega (arith, ints)) c.ranges.a c.ranges.b
