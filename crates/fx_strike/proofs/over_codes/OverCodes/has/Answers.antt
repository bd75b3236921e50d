use Rattle.std.proofs.Common.{◌∙◌}
use Rattle.fx_strike.proofs.Weighing.{found_is}
use Rattle.fx_strike.proofs.over_codes.OverCodes.has.Goals as goal

pub returns : goal.returns
returns c =
    c.is_ok.ensures.value ∙ found_is c.args.self.now c.args.code c.binary_search.result (rw (← c.self.view_is) c.self.invariant)
    (rw (← c.self.view_is) (rw c.deref.ensures.value at c.binary_search.ensures.position))
