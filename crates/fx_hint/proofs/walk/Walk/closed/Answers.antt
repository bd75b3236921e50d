use Rattle.std.proofs.Common.{rules, arith, None, []}
use Rattle.std.proofs.lemmas.Result.{err_from_is_err_and}
use Rattle.fx_hint.specs.inner.Steps.{opened}
use Rattle.fx_hint.proofs.Steps.{opens}
use Rattle.fx_hint.proofs.walk.Walk.closed.Goals as goal

pub steps-init : goal.steps-init
steps-init g c = record {
  known = search rules;
  kept = search rules;
  held = search rules;
  stands = (
    [],
    g.met.H.Hinter.leads_same _,
    rw (c.new-open.ensures, c.replace-base.ensures.value) (opens _ _ _ _ _
        (opened (record { component = None; g = c.args.self.now.root }) c.args.glyph c.args.made.now)
        (c.args.count.now, []) c.new-below.ensures),
  );
  counted = record {
    deep = rw c.new-below.ensures (omega arith);
    few = c.requires.records;
    numbered = rw (c.new-below.ensures, c.new-open.ensures) (omega arith);
    counted =
        let n = c.requires.counted in
        rw (c.new-below.ensures, c.new-open.ensures, c.replace-base.ensures.value) (omega (arith, n));
    points = c.requires.points;
  };
}

pub steps-preserved-in-Continue-1 : goal.steps-preserved-in-Continue-1
steps-preserved-in-Continue-1 g c =
    let to = rw c.steps.invariant.kept at c.in_ok-next_component-in-Some.ensures.steps in
    record {
      known = search rules;
      kept = search rules;
      held = search rules;
      stands = to.by _ _ (rw c.in-Some.ensures.steps at c.steps.invariant.stands);
      counted = c.in_ok-next_component-in-Some.ensures.counted;
    }

pub returns-in_err-next_component-in-Some-clause-walks : goal.returns-in_err-next_component-in-Some-clause-walks
returns-in_err-next_component-in-Some-clause-walks g c =
    let p = err_from_is_err_and c.from_residual.result c.from_residual.ensures.1 in
    let to = rw c.steps.invariant.kept at c.in_err-next_component-in-Some.ensures.steps in
    rw (p.1, p.2) (to.by _ _ (rw c.in-Some.ensures.steps at c.steps.invariant.stands) _ _)

pub returns-in_err-close-in-None-clause-walks : goal.returns-in_err-close-in-None-clause-walks
returns-in_err-close-in-None-clause-walks g c =
    let p = err_from_is_err_and c.from_residual-in_err-close-in-None.result c.from_residual-in_err-close-in-None.ensures.1 in
    let to = rw (c.steps.invariant.kept, c.in-None.ensures.steps.1) at c.in_err-close-in-None.ensures.steps in
    rw (p.1, p.2) (to.by _ _ (rw c.in-None.ensures.steps.0 at c.steps.invariant.stands) _ _)

pub returns-then-branch-clause-walks : goal.returns-then-branch-clause-walks
returns-then-branch-clause-walks g c =
    let to = rw (c.steps.invariant.kept, c.in-None.ensures.steps.1, c.if-branch.true) at c.in_ok-close-in-None.ensures.steps in
    to.by _ _ (rw c.in-None.ensures.steps.0 at c.steps.invariant.stands)

pub steps-preserved : goal.steps-preserved
steps-preserved g c =
    let to = rw (c.steps.invariant.kept, c.in-None.ensures.steps.1, c.if-branch.false) at c.in_ok-close-in-None.ensures.steps in
    record {
      known = search rules;
      kept = search rules;
      held = search rules;
      stands = to.by _ _ (rw c.in-None.ensures.steps.0 at c.steps.invariant.stands);
      counted = c.in_ok-close-in-None.ensures.counted c.if-branch.false;
    }
