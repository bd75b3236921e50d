use Rattle.std.proofs.Common.{arith}
use Rattle.fx_bdf.proofs.RowWords.{row_bit, row_past}
use Rattle.fx_bdf.proofs.rows.Row.pixel.Goals as goal

pub returns-then-j-self : goal.returns-then-j-self
returns-then-j-self c = grind (arith, c.if-j-self.true, row_past)

pub returns : goal.returns
returns c = grind (arith, c.is_set.ensures, c.if-j-self.false, row_bit)
