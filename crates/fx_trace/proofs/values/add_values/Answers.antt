use Rattle.std.proofs.Common.{arith}
use Rattle.fx_trace.specs.Changes.{value_text}
use Rattle.fx_trace.proofs.Texts.{says_nothing, one_more, no_more}
use Rattle.fx_trace.proofs.values.add_values.Goals as goal

pub values-init : goal.values-init
values-init g c = says_nothing

pub values-preserved : goal.values-preserved
values-preserved g c =
    one_more value_text c.args.values.now c.values.value-index c.value-item.result c.values.invariant c.value-item.is
    c.values-test.true c.add_value.ensures

pub returns : goal.returns
returns g c = no_more value_text c.args.values.now c.values.value-index c.values.invariant (omega (arith, c.values-test.false))
