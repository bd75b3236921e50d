use Rattle.std.proofs.Common.{length, ap, arith}
use Rattle.fx_code.proofs.Onward.{data_within}
use Rattle.fx_code.proofs.code.Code.put_instruction.Goals as goal

pub returns-in-Ok-clause-short : goal.returns-in-Ok-clause-short
returns-in-Ok-clause-short c = λ inside.
    omega (
      arith,
      c.set.ensures.short,
      c.in-Ok.ensures.next,
      data_within c.args.self.now c.args.address,
      ap length c.in-Ok.ensures.pushed,
    )
