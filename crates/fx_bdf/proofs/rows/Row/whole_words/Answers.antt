use Rattle.std.proofs.Common.{arith}
use Rattle.fx_bdf.proofs.RowWords.{whole_row, length-row_from}
use Rattle.fx_bdf.proofs.rows.Row.whole_words.Goals as goal

pub part-requires : goal.part-requires
part-requires c = grind (arith, c.self.invariant.inside, c.len.ensures.value, length-row_from)

pub returns-then-self-eq0 : goal.returns-then-self-eq0
returns-then-self-eq0 c =
    grind (arith, c.self.invariant, c.len.ensures.value, c.part.ensures, c.if-self-eq0.true, length-row_from, whole_row)
