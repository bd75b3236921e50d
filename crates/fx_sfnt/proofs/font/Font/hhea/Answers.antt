use Rattle.fx_sfnt.proofs.Opening.{opened}
use Rattle.fx_sfnt.proofs.font.Font.hhea.Goals as goal

pub returns-clause-metrics : goal.returns-clause-metrics
returns-clause-metrics c = (opened c.self.invariant.0).pairs
