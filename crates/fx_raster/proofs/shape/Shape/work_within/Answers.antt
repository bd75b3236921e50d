use Rattle.std.proofs.Common.{◌≡◌, sym, subst, List}
use Rattle.fx_winding.specs.Winding.{Span}
use Rattle.fx_contour.specs.Frames.{NothingOutsideFrame}
use Rattle.fx_raster.specs.Work.{drawing_work, within}
use Rattle.fx_raster.proofs.shape.Shape.work_within.Goals as goal

pub work_within-requires-clause-outside : goal.work_within-requires-clause-outside
work_within-requires-clause-outside g c =
    subst (λ (ss : List Span). NothingOutsideFrame c.self.inside.frame ss) (sym c.in_ok-pieces.ensures.ok) c.self.invariant.outside

pub returns : goal.returns
returns g c =
    rw (← c.self.view_is)
    (subst (λ (ss : List Span). c.in_ok-work.work ≡ within c.args.most (drawing_work c.self.inside.rule ss))
    c.in_ok-pieces.ensures.ok c.in_ok-work.ensures)
