use Rattle.std.proofs.Common.{refl, ◌∙◌}
use Rattle.std.proofs.KnownBytes.{Keeps-refl}
use Rattle.fx_strike.specs.Strike.{plan_with}
use Rattle.fx_strike.proofs.Exits.{came}
use Rattle.fx_strike.proofs.Making.{fails_leaves}
use Rattle.fx_strike.proofs.Sketching.{memory_fails}
use Rattle.fx_strike.proofs.Telling.{told_none}
use Rattle.fx_strike.proofs.Weighing.{restored}
use Rattle.fx_strike.proofs.striker.Striker.write_strike.Goals as goal

pub returns-in_err-before-clause-leaves : goal.returns-in_err-before-clause-leaves
returns-in_err-before-clause-leaves g c =
    rw (came c.from_residual.result c.from_residual.ensures.1)
    (fails_leaves _ _ c.in_err-before.field-0.0 (Keeps-refl _) refl (memory_fails _ _ (c.in_err-before.ensures).fault))

pub returns-in_err-before-clause-heard : goal.returns-in_err-before-clause-heard
returns-in_err-before-clause-heard g c =
    rw (came c.from_residual.result c.from_residual.ensures.1)
    (told_none _ (c.in_err-before.ensures).fault)

pub returns-clause-leaves : goal.returns-clause-leaves
unfolding plan_with
returns-clause-leaves g c = rw (c.in_ok-before.ensures).bounds.0 at c.write_within-result.ensures.leaves

pub returns-clause-heard : goal.returns-clause-heard
unfolding plan_with
returns-clause-heard g c = rw (c.in_ok-before.ensures).bounds.0 at c.write_within-result.ensures.heard

pub returns-clause-kept : goal.returns-clause-kept
returns-clause-kept g c =
    restored c.args.self.now _ _ _ _ (c.self.view_is ∙ c.write_within-result.ensures.kept ∙ (c.in_ok-before.ensures).bounds.0)
    (c.in_ok-before.ensures).bounds.1
