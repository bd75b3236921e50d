use Rattle.fx_sfnt.proofs.Opening.{opened}
use Rattle.fx_sfnt.proofs.font.Font.table.Goals as goal

pub find_table-requires : goal.find_table-requires
find_table-requires c = (opened c.self.invariant.0).records
