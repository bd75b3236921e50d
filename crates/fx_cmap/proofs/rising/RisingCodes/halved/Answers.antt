use Rattle.std.proofs.Common.{◌+◌, ◌-◌, ◌/◌, arith}
use Rattle.fx_cmap.proofs.Searching.{rising_between}
use Rattle.fx_cmap.proofs.rising.RisingCodes.halved.Goals as goal

pub halving-preserved-then-at-code : goal.halving-preserved-then-at-code
halving-preserved-then-at-code c =
    let codes = c.self.inside.codes in
    let middle = c.halving.low + (c.halving.high - c.halving.low) / 2 in
    record {
      ordered = omega arith;
      within = c.halving.invariant.within;
      before = λ k lt.
          let order = rising_between 0 codes k middle c.self.invariant (omega arith) (omega (arith, c.halving.invariant.within)) in
          omega (arith, order, c.at.ensures, c.if-at-code.true);
      reaches = c.halving.invariant.reaches;
    }
