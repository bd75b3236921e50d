use Rattle.std.proofs.Common.{arith, ◌^◌}
use Rattle.std.specs.Int.{w32, w64}
use Rattle.fx_fixed.proofs.Bounds.{product_size, size_fitting, product_widened}
use Rattle.fx_fixed.proofs.products.product.Goals as goal

pub returns-clause-value : goal.returns-clause-value
returns-clause-value c = product_widened w32 w64 c.args.a c.args.b c.from.result c.from-2.result c.ranges.a c.ranges.b
    c.from.ensures c.from-2.ensures (omega arith) (omega arith)

pub returns-clause-size : goal.returns-clause-size
returns-clause-size c = rw (returns-clause-value c) (product_size (2 ^ 31) (2 ^ 31) c.args.a c.args.b
    (size_fitting w32 c.args.a c.ranges.a) (size_fitting w32 c.args.b c.ranges.b))
