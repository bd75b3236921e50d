use Rattle.std.proofs.Common.{◌^◌, arith}
use Rattle.std.specs.Int.{w32, w64}
use Rattle.fx_fixed.proofs.Bounds.{product_size, product_widened}
use Rattle.fx_moves.proofs.inferring.area.Goals as goal

pub returns-clause-value : goal.returns-clause-value
returns-clause-value c = product_widened w32 w64 c.args.a c.args.b c.from.result c.from-2.result c.ranges.a c.ranges.b
    c.from.ensures c.from-2.ensures (omega arith) (omega arith)

pub returns-clause-bound : goal.returns-clause-bound
returns-clause-bound c = rw (returns-clause-value c) (product_size (2 ^ 16) (2 ^ 16) c.args.a c.args.b c.requires.a c.requires.b)
