use Rattle.std.proofs.Common.{refl}
use Rattle.fx_strike.proofs.Exits.{came}
use Rattle.fx_strike.proofs.Fates.{can_be_made, seen_fate}
use Rattle.fx_strike.proofs.striker.Striker.see_one.Goals as goal

pub see_fate-done-requires-clause-drawable : goal.see_fate-done-requires-clause-drawable
see_fate-done-requires-clause-drawable g c =
    can_be_made _ c.args.refused c.args.m.code c.args.m.glyph c.in_ok-fate.fate (c.in_ok-fate.ensures).fate c.requires.code

pub returns-in_err-fate-clause-seen : goal.returns-in_err-fate-clause-seen
returns-in_err-fate-clause-seen g c =
    rw (came c.from_residual.result c.from_residual.ensures.1) (c.in_err-fate.ensures).fate

pub returns-in_err-fate-clause-heard : goal.returns-in_err-fate-clause-heard
returns-in_err-fate-clause-heard g c = rw (came c.from_residual.result c.from_residual.ensures.1) refl

pub returns-clause-seen : goal.returns-clause-seen
returns-clause-seen g c =
    seen_fate _ _ _ _ c.see_fate-done.result c.in_ok-fate.fate (c.in_ok-fate.ensures).fate c.see_fate-done.ensures.seen
    c.see_fate-done.ensures.fault

pub returns-clause-heard : goal.returns-clause-heard
returns-clause-heard g c = rw (c.in_ok-fate.ensures).fate c.see_fate-done.ensures.heard
