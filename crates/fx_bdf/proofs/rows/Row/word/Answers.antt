use Rattle.std.proofs.Common.{arith}
use Rattle.fx_bdf.proofs.RowWords.{word_of_row}
use Rattle.fx_bdf.proofs.rows.Row.word.Goals as goal

pub returns : goal.returns
returns c = grind (arith, c.self.invariant, c.word_at.ensures, c.word_at-2.ensures, c.joined.ensures, word_of_row)
