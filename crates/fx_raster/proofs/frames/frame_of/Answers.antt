use Rattle.fx_raster.proofs.Shaping.{frame_found, frame_refused}
use Rattle.fx_raster.proofs.frames.frame_of.Goals as goal

pub returns-clause-frame : goal.returns-clause-frame
returns-clause-frame c =
    let o = c.args.outline.now in
    frame_found c.args.rule o.ends.items o.points.items _ c.frame_by.ensures.exact c.frame_by.ensures.frame
    c.frame_by.ensures.outside c.frame_by.ensures.reach

pub returns-clause-fault : goal.returns-clause-fault
returns-clause-fault c =
    let o = c.args.outline.now in frame_refused c.args.rule o.ends.items o.points.items _ c.frame_by.ensures.exact
