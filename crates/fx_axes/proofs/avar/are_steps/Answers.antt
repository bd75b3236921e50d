use Rattle.std.proofs.Common.{◌≡◌, true, false, sym, ap, ◌∙◌, arith, length, length-drop, drop}
use Rattle.fx_axes.specs.Avar.{mapping_of, is_step}
use Rattle.fx_axes.proofs.Maps.{steps_on, steps_off, steps_end}
use Rattle.fx_axes.proofs.avar.are_steps.Goals as goal

pub returns-then-not-is_step : goal.returns-then-not-is_step
returns-then-not-is_step c =
    let step : is_step (mapping_of c.pairs.rest.now) (mapping_of (drop 4 c.pairs.rest.now)) ≡ false =
    rw (sym c.after-next.ensures, sym c.mapping_of-p.ensures, sym c.mapping_of-q.ensures) (sym c.is_step.ensures
    ∙ c.if-not-is_step.true) in
    steps_off _ _ _ _ c.pairs-test.true step c.pairs.invariant.same

pub pairs-preserved : goal.pairs-preserved
pairs-preserved c =
    let step : is_step (mapping_of c.pairs.rest.now) (mapping_of (drop 4 c.pairs.rest.now)) ≡ true =
    rw (sym c.after-next.ensures, sym c.mapping_of-p.ensures, sym c.mapping_of-q.ensures) (sym c.is_step.ensures
    ∙ c.if-not-is_step.false) in
    record {
      same = steps_on _ _ _ _ _ c.pairs-test.true step c.after-next.ensures c.pairs.invariant.same;
      inside = omega (
        arith,
        c.pairs-test.true,
        c.pairs.invariant.inside,
        ap length c.after-next.ensures,
        length-drop 4
            c.pairs.rest.now,
      );
    }

pub returns : goal.returns
returns c = steps_end _ _ _ _ c.pairs-test.false c.pairs.invariant.same
