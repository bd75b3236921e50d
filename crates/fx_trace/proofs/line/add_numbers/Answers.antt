use Rattle.std.proofs.Common.{arith, rules, pos, get_or, FitsSigned, to_z-of_z}
use Rattle.std.specs.Int.{w32}
use Rattle.std.proofs.lemmas.List.{get_or_default}
use Rattle.fx_trace.specs.Lines.{number_text}
use Rattle.fx_trace.proofs.Texts.{says_nothing, one_more, no_more}
use Rattle.fx_trace.proofs.line.add_numbers.Goals as goal

pub numbers-init : goal.numbers-init
numbers-init g c = says_nothing

pub numbers-preserved : goal.numbers-preserved
numbers-preserved g c =
    let fits : FitsSigned w32 (get_or c.args.numbers.now c.numbers.number-index (pos 0)) = search rules in
    let told = simp to_z-of_z at c.add_value.ensures in
    one_more number_text c.args.numbers.now c.numbers.number-index _ c.numbers.invariant
    (get_or_default c.args.numbers.now c.numbers.number-index (pos 0) _ c.numbers-test.true) c.numbers-test.true
    told

pub returns : goal.returns
returns g c =
    no_more number_text c.args.numbers.now c.numbers.number-index c.numbers.invariant (omega (arith, c.numbers-test.false))
