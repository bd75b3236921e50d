use Rattle.std.proofs.Common.{arith}
use Rattle.fx_bdf.proofs.Waiting.{line_ended}
use Rattle.fx_bdf.proofs.row_lines.put_row.Goals as goal

pub returns-clause-text : goal.returns-clause-text
returns-clause-text c = grind (arith, c.requires.room, c.put_digits.ensures, c.put_over.ensures, line_ended)
