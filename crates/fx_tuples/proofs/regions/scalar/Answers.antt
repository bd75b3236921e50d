use Rattle.std.proofs.Common.{◌∙◌, refl, arith}
use Rattle.fx_tuples.proofs.Scalars.{scalar_first, scalar_next}
use Rattle.fx_tuples.proofs.regions.scalar.Goals as goal

pub axes-init : goal.axes-init
axes-init c = record { same = scalar_first _ _; bound = omega arith }

pub axes-preserved : goal.axes-preserved
axes-preserved c = record {
  same = c.scaled-scalar.ensures.value ∙ scalar_next _ _ _ _ _ _ _ c.axes.invariant.same refl refl c.factor_along.ensures.value;
  bound = omega (arith, c.scaled-scalar.ensures.bound, c.axes.invariant.bound);
}
