use Rattle.fx_contour.proofs.Closed.{by_midpoints}
use Rattle.fx_contour.proofs.laws.by_midpoints.Goals as goal

pub returns : goal.returns
returns c = by_midpoints
