use Rattle.std.proofs.Common.{arith}
use Rattle.fx_bdf.proofs.Waiting.{lines_fit}
use Rattle.fx_bdf.proofs.row_lines.last_fitting.Goals as goal

pub returns-clause-room : goal.returns-clause-room
returns-clause-room c = grind (arith, c.saturating_sub.ensures, lines_fit)
