use Rattle.std.proofs.Common.{arith}
use Rattle.fx_rows.proofs.apart.columns_of.Goals as goal

pub returns-then-not-has_columns-clause-lacks : goal.returns-then-not-has_columns-clause-lacks
returns-then-not-has_columns-clause-lacks c =
    grind (arith, c.has_columns.ensures.lacks, c.if-not-has_columns.true, c.across_of-across.ensures.tight)

pub returns-clause-columns : goal.returns-clause-columns
returns-clause-columns c = grind (arith, c.has_columns.ensures.has, c.if-not-has_columns.false, c.across_of-across.ensures.across)
