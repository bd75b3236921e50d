use Rattle.std.proofs.Common.{arith}
use Rattle.fx_bdf.proofs.Lanes.{pair_text}
use Rattle.fx_bdf.proofs.digits.pair_lanes.Goals as goal

pub returns : goal.returns
returns c = pair_text c.args.first c.args.second (omega arith) (omega arith)
