use Rattle.std.proofs.Common.{sym, ap, ◌∙◌}
use Rattle.fx_fixed.specs.Chain.{wanted}
use Rattle.fx_vary.specs.declared.fault.ShapeFault.TheVariants.{BadVariations}
use Rattle.fx_vary.specs.Shape.{point_moved}
use Rattle.fx_vary.proofs.MovedSteps.{moved_on, moved_off, moved_end}
use Rattle.fx_vary.proofs.shape.move_points.Goals as goal

pub returns-in_default : goal.returns-in_default
returns-in_default c =
    ap (λ o. wanted o (BadVariations c.args.g))
    (moved_off point_moved _ _ _ _ _ c.points.invariant _ _ _ c.in-Some.ensures.steps
    (c.len-number.ensures ∙ c.points.list.ok.0) (sym c.in_default.is ∙ c.point_by.ensures))

pub points-preserved : goal.points-preserved
points-preserved c =
    moved_on point_moved _ _ _ _ _ c.points.invariant _ _ _ _ _ c.in-Some.ensures.steps
    (c.len-number.ensures ∙ c.points.list.ok.0)
    (sym c.in-Some-point_by.is ∙ c.point_by.ensures) c.in_ok-append.ensures

pub returns : goal.returns
returns c =
    ap (λ o. wanted o (BadVariations c.args.g))
    (moved_end point_moved _ _ _ _ _ c.points.invariant c.in-None.ensures.steps.0)
