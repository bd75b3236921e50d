use Rattle.std.proofs.Common.{◌⊎◌, inl, inr, ◌≤◌, ◌<◌, arith}
use Rattle.fx_fixed.proofs.Linear.{signed_linear}
use Rattle.fx_fixed.proofs.Order.{below_or_not}
use Rattle.fx_rows.proofs.heights.rows_in.Goals as goal

pub invariant_of-result-2 : goal.invariant_of-result-2
invariant_of-result-2 c = record { order = by (below_or_not c.rows_below-2.result c.rows_below.result) }
  where
    by : (c.rows_below-2.result < c.rows_below.result) ⊎ (c.rows_below.result ≤ c.rows_below-2.result)
        → c.rows_below.result ≤ c.rows_below-2.result
    by (inl l) =
        let first = c.rows_below.ensures in
        let under = first.below c.rows_below-2.result l in
        let over = c.rows_below-2.ensures.rest c.rows_below-2.result (omega arith) (omega (arith, l, first.within)) in
        absurd (omega (arith, signed_linear, under, over, c.if-past-low.false, c.requires.0, c.requires.1))
    by (inr l) = l
