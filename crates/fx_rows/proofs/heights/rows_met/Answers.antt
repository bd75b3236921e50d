use Rattle.std.proofs.Common.{◌≡◌, pos, ◌+ℤ◌, arith, w32, to_z, of_z}
use Rattle.fx_fixed.proofs.Linear.{signed_linear}
use Rattle.fx_rows.proofs.heights.rows_met.Goals as goal

pub returns-clause-below : goal.returns-clause-below
returns-clause-below c = λ r l.
    let same : to_z w32 (of_z w32 c.low_row.result) ≡ c.low_row.result = omega (arith, signed_linear, c.low_row.ensures.size) in
    c.low_row.ensures.under (c.args.frame.bottom +ℤ pos r) (rw same at (c.rows_in.ensures.below r l))

pub returns-clause-above : goal.returns-clause-above
returns-clause-above c = λ r m h.
    let same : to_z w32 (of_z w32 c.past_row.result) ≡ c.past_row.result = omega (arith, signed_linear, c.past_row.ensures.size) in
    c.past_row.ensures.over (c.args.frame.bottom +ℤ pos r) (rw same at (c.rows_in.ensures.rest r m h))
