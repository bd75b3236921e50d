use Rattle.std.proofs.Common.{arith}
use Rattle.std.specs.Int.{w64, w128}
use Rattle.fx_fixed.proofs.Bounds.{product_widened}
use Rattle.fx_fixed.proofs.products.wide_product.Goals as goal

pub returns : goal.returns
returns c = product_widened w64 w128 c.args.a c.args.b c.from.result c.from-2.result c.ranges.a c.ranges.b
    c.from.ensures c.from-2.ensures (omega arith) (omega arith)
