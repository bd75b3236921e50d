use Rattle.std.proofs.Common.{ap, ◌∙◌, arith, length, length-drop}
use Rattle.std.proofs.lemmas.Int.{ints}
use Rattle.fx_axes.specs.Avar.{mapping_of}
use Rattle.fx_axes.proofs.Maps.{next_step, mapped_here, mapped_on, mapped_end, steps_on, first_step}
use Rattle.fx_axes.proofs.avar.mapped_of.Goals as goal

pub gap_of-gap-requires-clause-rising : goal.gap_of-gap-requires-clause-rising
gap_of-gap-requires-clause-rising c =
    (next_step _ _ _ _ _ _ c.pairs-test.true c.pairs.invariant.steps c.after-next.ensures c.mapping_of-p.ensures
    c.mapping_of-q.ensures).from

pub on_segment-requires-clause-rising : goal.on_segment-requires-clause-rising
on_segment-requires-clause-rising c =
    (next_step _ _ _ _ _ _ c.pairs-test.true c.pairs.invariant.steps c.after-next.ensures c.mapping_of-p.ensures
    c.mapping_of-q.ensures).to

pub returns-then-past-gap-clause-value : goal.returns-then-past-gap-clause-value
returns-then-past-gap-clause-value c =
    c.on_segment.ensures.value
    ∙ mapped_here _ _ _ _ _ _ _ _ _ c.pairs-test.true c.mapping_of-p.ensures (c.mapping_of-q.ensures
    ∙ ap mapping_of c.after-next.ensures)
    c.gap_of-gap.ensures.value c.if-past-gap.true c.pairs.invariant.same

pub returns-then-past-gap-clause-within : goal.returns-then-past-gap-clause-within
returns-then-past-gap-clause-within c =
    let step = next_step _ _ _ _ _ _ c.pairs-test.true c.pairs.invariant.steps c.after-next.ensures c.mapping_of-p.ensures
    c.mapping_of-q.ensures in
    omega (
      arith,
      ints,
      step.most,
      c.on_segment.ensures.least,
      c.on_segment.ensures.most,
      c.pairs.invariant.least,
      ap (λ m. m.to) c.mapping_of-p.ensures,
    )

pub pairs-preserved : goal.pairs-preserved
pairs-preserved c =
    let step = next_step _ _ _ _ _ _ c.pairs-test.true c.pairs.invariant.steps c.after-next.ensures c.mapping_of-p.ensures
    c.mapping_of-q.ensures in
    let q = ap (λ m. m.to) c.mapping_of-q.ensures in
    let p = ap (λ m. m.to) c.mapping_of-p.ensures in
    record {
      same = mapped_on _ _ _ _ _ _ _ _ _ _ c.pairs-test.true c.mapping_of-p.ensures
          (c.mapping_of-q.ensures ∙ ap mapping_of c.after-next.ensures) c.gap_of-gap.ensures.value c.if-past-gap.false
          c.after-next.ensures
          c.pairs.invariant.same;
      inside = omega (
        arith,
        c.pairs-test.true,
        c.pairs.invariant.inside,
        ap length c.after-next.ensures,
        length-drop 4
            c.pairs.rest.now,
      );
      steps = steps_on _ _ _ _ _ c.pairs-test.true
          (first_step _ _ _ c.pairs-test.true c.pairs.invariant.steps) c.after-next.ensures c.pairs.invariant.steps;
      least = omega (arith, ints, step.to, p, q, c.pairs.invariant.least);
      most = omega (arith, ints, step.most, q);
    }

pub returns-clause-value : goal.returns-clause-value
returns-clause-value c = c.to_of.ensures ∙ ap (λ m. m.to) c.mapping_of.ensures
    ∙ mapped_end _ _ _ _ _ _ c.pairs-test.false c.pairs.invariant.same
