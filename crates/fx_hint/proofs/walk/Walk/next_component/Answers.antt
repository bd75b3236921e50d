use Rattle.std.proofs.Common.{refl, arith, [], ◌∷◌, length-append}
use Rattle.std.proofs.lemmas.Result.{err_from_is_err_and}
use Rattle.fx_hint.specs.declared.below.OpenComposite.{OpenComposite}
use Rattle.fx_hint.specs.declared.below.Waiting.{Waiting}
use Rattle.fx_hint.proofs.Steps.{with_next, descends, not_descended, fills, not_filled}
use Rattle.fx_hint.proofs.RunLaws.{logged_is, first_of_begun, stops_here, stops_on}
use Rattle.fx_hint.proofs.Totals.{points_with_one_more, begun_with_one_more, component_adds_points}
use Rattle.fx_hint.proofs.walk.Walk.next_component.Goals as goal

pub add_component-requires : goal.add_component-requires
add_component-requires g c =
    let n = c.in_ok-begun_component.ensures.points in
    let m = c.requires.counted.counted in
    omega (arith, n.0, n.1, m)

pub returns-in_err-begun_component-clause-steps : goal.returns-in_err-begun_component-clause-steps
returns-in_err-begun_component-clause-steps g c =
    let p = err_from_is_err_and c.from_residual.result c.from_residual.ensures.1 in
    let whole : OpenComposite = record c.args.inner.now { left = c.args.component ∷ c.args.inner.now.left } in
    rw (p.1, p.2) (record {
      by =
          λ start due ran made counted. stops_on g.H.Hinter.Leads g.met.H.Hinter.leads_then _ _ _ _
          c.in_err-begun_component.field-0.0 _ ran.0 _ _ _ ran.1 c.in_err-begun_component.ensures.leads
          (first_of_begun _ _ _ _ _ _ whole _ _ _ _ _ _ ran.2 refl c.levels-levels.ensures (logged_is _ _ _ _ _ _ _ _ ran.0 _ refl))
          c.in_err-begun_component.ensures.value
          (λ e b. not_descended _ _ _ _ _ _ whole _ _ _ _ _ ran.2 refl c.levels-levels.ensures
          (logged_is _ _ _ _ _ _ _ _ ran.0 _ b));
    })

pub returns-in_err-add_component-in-None-clause-steps : goal.returns-in_err-add_component-in-None-clause-steps
returns-in_err-add_component-in-None-clause-steps g c =
    let p = err_from_is_err_and c.from_residual-in_err-add_component-in-None.result
    c.from_residual-in_err-add_component-in-None.ensures.1 in
    let whole : OpenComposite = record c.args.inner.now { left = c.args.component ∷ c.args.inner.now.left } in
    let v = rw c.in-None.is at c.in_ok-begun_component.ensures.value in
    let a = rw c.requires.on at c.in_err-add_component-in-None.ensures in
    rw (p.1, p.2) (record {
      by =
          λ start due ran made counted. stops_here g.H.Hinter.Leads _ _ _ c.in_err-add_component-in-None.field-0.0 _ _ _ _
          (g.met.H.Hinter.leads_then _ _ _ _ _ ran.1 c.in_ok-begun_component.ensures.leads)
          (first_of_begun _ _ _ _ _ _ whole _ _ _ _ _ _ ran.2 refl c.levels-levels.ensures
          (logged_is _ _ _ _ _ _ _ _ ran.0 _ refl)) a
          (λ e b. not_filled _ _ _ _ _ _ whole _ _ _ _ _ _ e ran.2 refl c.levels-levels.ensures
          (logged_is _ _ _ _ _ _ _ _ ran.0 _ v) b);
    })

pub returns-in_ok-add_component-in-None-clause-counted : goal.returns-in_ok-add_component-in-None-clause-counted
returns-in_ok-add_component-in-None-clause-counted g c =
    let a = rw c.requires.on at c.in_ok-add_component-in-None.ensures in
    let m = c.requires.counted.counted in
    let k = c.requires.counted.numbered in
    let n = c.in_ok-begun_component.ensures.points in
    let r = c.in_ok-begun_component.ensures.records in
    let s = component_adds_points _ _ _ _ _ _ _ a in
    record {
      deep = c.requires.counted.deep;
      few = r.1;
      numbered = omega (arith, k, r.0);
      counted = omega (arith, m, n.0, s);
      points = n.1;
    }

pub returns-in_ok-add_component-in-None-clause-steps : goal.returns-in_ok-add_component-in-None-clause-steps
returns-in_ok-add_component-in-None-clause-steps g c =
    let whole : OpenComposite = record c.args.inner.now { left = c.args.component ∷ c.args.inner.now.left } in
    let v = rw c.in-None.is at c.in_ok-begun_component.ensures.value in
    let a = rw c.requires.on at c.in_ok-add_component-in-None.ensures in
    record {
      by =
          λ start due ran. (
            _,
            g.met.H.Hinter.leads_then _ _ _ _ _ ran.1 c.in_ok-begun_component.ensures.leads,
            fills _ _ _ _ _ _ whole _ _ _ _ _ _ _ ran.2 refl c.levels-levels.ensures (logged_is _ _ _ _ _ _ _ _ ran.0 _ v) a,
          );
    }

pub returns-in_err-push-in-Some-clause-steps : goal.returns-in_err-push-in-Some-clause-steps
returns-in_err-push-in-Some-clause-steps g c =
    let p = err_from_is_err_and c.from_residual-in_err-push-in-Some.result c.from_residual-in_err-push-in-Some.ensures.1 in
    let whole : OpenComposite = record c.args.inner.now { left = c.args.component ∷ c.args.inner.now.left } in
    rw (p.1, p.2) (record {
      by =
          λ start due ran made counted. record {
            by = (
              _,
              g.met.H.Hinter.leads_then _ _ _ _ _ ran.1 c.in_ok-begun_component.ensures.leads,
              first_of_begun _ _ _ _ _ _ whole _ _ _ _ _ _ ran.2 refl c.levels-levels.ensures
                  (logged_is _ _ _ _ _ _ _ _ ran.0 _ refl),
            );
          };
    })

pub returns-in_ok-push-in-Some-clause-counted : goal.returns-in_ok-push-in-Some-clause-counted
returns-in_ok-push-in-Some-clause-counted g c =
    let w : Waiting =
    record { component = c.args.component; composite = with_next c.args.inner.now c.args.inner.now.left } in
    let one = length-append c.args.below.now (w ∷ []) in
    let level = c.in_ok-begun_component.ensures.level in
    let m = c.requires.counted.counted in
    let k = c.requires.counted.numbered in
    let n = c.in_ok-begun_component.ensures.points in
    let r = c.in_ok-begun_component.ensures.records in
    let s = points_with_one_more c.args.below.now w in
    let b = begun_with_one_more c.args.below.now w in
    let there = c.replace-composite.ensures in
    rw (c.in_ok-push-in-Some.ensures, there.value, there.after, c.new.ensures, c.replace-base.ensures.value) (record {
      deep = omega (arith, one, level, c.levels-levels.ensures);
      few = r.1;
      numbered = omega (arith, k, r.0, b);
      counted = omega (arith, m, n.0, s);
      points = n.1;
    })

pub returns-in_ok-push-in-Some-clause-steps : goal.returns-in_ok-push-in-Some-clause-steps
returns-in_ok-push-in-Some-clause-steps g c =
    let whole : OpenComposite = record c.args.inner.now { left = c.args.component ∷ c.args.inner.now.left } in
    let v = rw c.in-Some.is at c.in_ok-begun_component.ensures.value in
    let pushed = rw c.replace-composite.ensures.value at c.in_ok-push-in-Some.ensures in
    rw (c.replace-composite.ensures.after, c.new.ensures, c.replace-base.ensures.value) (record {
      by =
          λ start due ran. (
            _,
            g.met.H.Hinter.leads_then _ _ _ _ _ ran.1 c.in_ok-begun_component.ensures.leads,
            descends _ _ _ _ _ _ _ whole _ _ _ _ _ _ ran.2 refl c.levels-levels.ensures
                (logged_is _ _ _ _ _ _ _ _ ran.0 _ v) pushed,
          );
    })
