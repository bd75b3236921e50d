use Rattle.std.proofs.Common.{sym, ap, ◌∙◌}
use Rattle.fx_fixed.specs.Chain.{wanted}
use Rattle.fx_vary.specs.declared.fault.ShapeFault.TheVariants.{BadVariations}
use Rattle.fx_vary.specs.Shape.{component_moved}
use Rattle.fx_vary.proofs.MovedSteps.{moved_on, moved_off, moved_end}
use Rattle.fx_vary.proofs.shape.move_components.Goals as goal

pub returns-in_default : goal.returns-in_default
returns-in_default c =
    ap (λ o. wanted o (BadVariations c.args.g))
    (moved_off component_moved _ _ _ _ _ c.components.invariant _ _ _ c.in-Some.ensures.steps
    (c.len-number.ensures ∙ c.components.list.ok.0) (sym c.in_default.is ∙ c.component_by.ensures))

pub components-preserved : goal.components-preserved
components-preserved c =
    moved_on component_moved _ _ _ _ _ c.components.invariant _ _ _ _ _ c.in-Some.ensures.steps
    (c.len-number.ensures ∙ c.components.list.ok.0)
    (sym c.in-Some-component_by.is ∙ c.component_by.ensures) c.in_ok-append.ensures

pub returns : goal.returns
returns c =
    ap (λ o. wanted o (BadVariations c.args.g))
    (moved_end component_moved _ _ _ _ _ c.components.invariant c.in-None.ensures.steps.0)
