use Rattle.std.proofs.Common.{List, sym, subst}
use Rattle.fx_winding.specs.Winding.{Span}
use Rattle.fx_contour.specs.Frames.{NothingOutsideFrame}
use Rattle.fx_raster.proofs.shape.Shape.bitmap.Goals as goal

pub bitmap_of-requires-clause-outside : goal.bitmap_of-requires-clause-outside
bitmap_of-requires-clause-outside g c =
    subst (λ (ss : List Span). NothingOutsideFrame c.self.inside.frame ss) (sym c.in_ok-pieces.ensures.ok) c.self.invariant.outside
