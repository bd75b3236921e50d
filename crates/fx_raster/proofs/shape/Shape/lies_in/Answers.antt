use Rattle.fx_contour.specs.Contours.{spans_of}
use Rattle.fx_raster.proofs.Inside.{set_inside}
use Rattle.fx_raster.proofs.Shaping.{are_of_outline}
use Rattle.fx_raster.proofs.shape.Shape.lies_in.Goals as goal

pub returns : goal.returns
returns c inside =
    let shape = c.self.inside in
    let ends = shape.outline.ends.items in
    let points = shape.outline.points.items in
    rw (← c.self.view_is)
    (set_inside shape.rule shape.frame (spans_of ends points) c.args.region c.self.invariant.framed c.self.invariant.outside
    (are_of_outline ends points) (c.lies_in.ensures.pixels inside))
