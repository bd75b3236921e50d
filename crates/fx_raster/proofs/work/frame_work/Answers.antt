use Rattle.fx_raster.proofs.Framed.{framed_work, no_frame_work}
use Rattle.fx_raster.proofs.work.frame_work.Goals as goal

pub returns-in-Some : goal.returns-in-Some
returns-in-Some c rule ss h = let e = framed_work rule c.in-Some.f ss (rw c.in-Some.is at h) in rw c.div_ceil.ensures e

pub returns-in-None : goal.returns-in-None
returns-in-None c rule ss h = no_frame_work rule ss (rw c.in-None.is at h)
