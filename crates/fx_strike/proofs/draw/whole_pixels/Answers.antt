use Rattle.std.proofs.Common.{rules, arith}
use Rattle.fx_strike.proofs.Sketching.{near_64_small, whole_is}
use Rattle.fx_strike.proofs.draw.whole_pixels.Goals as goal

pub overflow_cast-result : goal.overflow_cast-result
overflow_cast-result c =
    (whole_is c.advance.inside.0 c.from.result c.near_64.result (search rules) c.from.ensures c.near_64.ensures.value).0

pub returns-clause-value : goal.returns-clause-value
returns-clause-value c =
    rw (← c.advance.view_is)
    (whole_is c.advance.inside.0 c.from.result c.near_64.result (search rules) c.from.ensures c.near_64.ensures.value).1

pub returns-clause-size : goal.returns-clause-size
returns-clause-size c = grind (arith, c.from.ensures, c.near_64.ensures.value, whole_is, near_64_small)
