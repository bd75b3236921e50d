use Rattle.std.proofs.Common.{arith}
use Rattle.fx_fixed.proofs.Linear.{signed_linear}
use Rattle.fx_rows.proofs.heights.rows_between.Goals as goal

pub returns : goal.returns
returns c = grind (arith, signed_linear, c.first_over-first.ensures, c.end_under.ensures)
