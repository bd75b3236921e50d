use Rattle.std.proofs.Common.{arith, sym, ◌∙◌, refl}
use Rattle.fx_between.proofs.Named.{run_ends, run_next}
use Rattle.fx_between.proofs.Sweeping.{contour_stays, contour_swept, named_passed, run_passed, passed_long, all_passed}
use Rattle.fx_between.proofs.contours.fill_contour.Goals as goal

pub returns-in_default : goal.returns-in_default
returns-in_default g c =
    sym (contour_stays (g.R.Rule.is_named c.args.rule.now) (g.R.Rule.between c.args.rule.now) c.args.points.now
    (sym c.in_default.is ∙ c.last_named.ensures))

pub numbered-first-requires : goal.numbered-first-requires
numbered-first-requires g c =
    rw c.unnamed_run.ensures
    (run_ends (g.R.Rule.is_named c.args.rule.now) c.args.points.now c.in-Some.last (sym c.in-Some.is ∙ c.last_named.ensures))

pub points-init : goal.points-init
points-init g c =
    let named = g.R.Rule.is_named c.args.rule.now in
    let some = sym c.in-Some.is ∙ c.last_named.ensures in
    record {
      answer = contour_swept named (g.R.Rule.between c.args.rule.now) c.args.points.now c.in-Some.last c.numbered-first.result
          c.unnamed_run.result some (run_ends named c.args.points.now c.in-Some.last some) c.unnamed_run.ensures
          c.numbered-first.ensures;
      within = omega arith;
    }

pub points-preserved-then-is_named : goal.points-preserved-then-is_named
points-preserved-then-is_named g c = record {
  answer = named_passed (g.R.Rule.is_named c.args.rule.now) (g.R.Rule.between c.args.rule.now) _ _ c.in-Some.last _
      c.index-points-start.result c.points.points c.points.start c.points-test.true refl
      (sym c.is_named.ensures ∙ c.if-is_named.true) c.points.invariant.answer;
  within = omega (arith, c.points-test.true);
}

pub points-preserved : goal.points-preserved
points-preserved g c =
    let i = c.points.invariant in
    let named = g.R.Rule.is_named c.args.rule.now in
    let value = c.run_end-end.ensures.value in
    let fit = c.run_end-end.ensures.within in
    let next = run_next named c.points.points c.points.start c.index-points-start.result _ c.points-test.true refl
    (sym c.is_named.ensures ∙ c.if-is_named.false) in
    record {
      answer = run_passed named (g.R.Rule.between c.args.rule.now) _ _ c.in-Some.last _ _ c.points.points c.fill_run.new.points
          c.points.start c.run_end-end.result _ i.within (omega (arith, value, next)) refl c.point_before-before.ensures
          c.numbered_or-after.ensures c.fill_run.ensures i.answer;
      within = omega (
        arith,
        fit,
        passed_long _ c.points.points c.fill_run.new.points c.points.start c.run_end-end.result _
            (omega (arith, value)) fit refl c.fill_run.ensures,
      );
    }

pub points-smaller : goal.points-smaller
points-smaller g c =
    let value = c.run_end-end.ensures.value in
    let fit = c.run_end-end.ensures.within in
    let long = passed_long _ c.points.points c.fill_run.new.points c.points.start c.run_end-end.result _
    (omega (arith, value)) fit refl c.fill_run.ensures in
    omega (arith, value, long, fit)

pub returns : goal.returns
returns g c =
    all_passed (g.R.Rule.is_named c.args.rule.now) (g.R.Rule.between c.args.rule.now) _ _ c.in-Some.last c.points.points
    c.points.start c.points-test.false c.points.invariant.answer
