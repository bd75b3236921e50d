use Rattle.fx_dropout.proofs.NoGaps.{dropout_adds, rows_have_no_gap, columns_have_no_gap}
use Rattle.fx_dropout.proofs.laws.dropout.Goals as goal

pub returns : goal.returns
returns c = record { adds = dropout_adds; rows = rows_have_no_gap; columns = columns_have_no_gap }
