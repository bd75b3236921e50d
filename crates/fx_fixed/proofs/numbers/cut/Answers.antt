use Rattle.std.proofs.Common.{rules, FitsSigned, to_z-of_z}
use Rattle.std.specs.Int.{w128}
use Rattle.fx_fixed.proofs.Rounding.{is_cut}
use Rattle.fx_fixed.proofs.numbers.cut.Goals as goal

pub returns-clause-cut : goal.returns-clause-cut
returns-clause-cut c =
    let fits : FitsSigned w128 c.quotient.result = search rules in
    let number : FitsSigned w128 c.args.n = c.ranges.n in
    let divisor : FitsSigned w128 c.args.d = c.ranges.d in
    let value = simp to_z-of_z at c.quotient.ensures in
    simp to_z-of_z (is_cut c.args.n c.args.d c.quotient.result c.requires.nonzero value)
