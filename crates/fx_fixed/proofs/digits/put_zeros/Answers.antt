use Rattle.std.proofs.Common.{arith, ◌-◌, ◌∙◌}
use Rattle.std.proofs.lemmas.List.{length-set}
use Rattle.fx_fixed.proofs.Hexadecimals.{zero_more, zeros_all}
use Rattle.fx_fixed.proofs.digits.put_zeros.Goals as goal

pub zeros-preserved : goal.zeros-preserved
zeros-preserved c =
    let i = c.zeros.invariant in
    record {
      before = omega arith;
      long = length-set c.zeros.buffer (c.zeros.at - 1) 48 ∙ i.long;
      few = omega arith;
      zeros = zero_more _ _ _ _ (omega arith) (omega arith) i.before i.zeros;
    }

pub returns-clause-zeros : goal.returns-clause-zeros
returns-clause-zeros c =
    let i = c.zeros.invariant in zeros_all _ _ _ _ _ _ i.before c.requires.order i.few (omega arith) i.zeros
