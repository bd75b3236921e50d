use Rattle.std.proofs.Common.{arith}
use Rattle.fx_bdf.proofs.HeldRows.{length-rows_held, held_width}
use Rattle.fx_bdf.proofs.box_rows.BoxRows.digits.Goals as goal

pub returns-clause-value : goal.returns-clause-value
returns-clause-value c = grind (arith, length-rows_held, held_width)
