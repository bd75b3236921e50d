use Rattle.fx_raster.proofs.NoGap.{no_gap_in_row, no_gap_in_column}
use Rattle.fx_raster.proofs.laws.bridged.Goals as goal

pub returns-clause-rows : goal.returns-clause-rows
returns-clause-rows c = no_gap_in_row

pub returns-clause-columns : goal.returns-clause-columns
returns-clause-columns c = no_gap_in_column
