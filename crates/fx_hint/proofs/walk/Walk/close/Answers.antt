use Rattle.std.proofs.Common.{refl, arith, [], ◌∷◌, length-append}
use Rattle.std.proofs.lemmas.Result.{err_from_is_err_and}
use Rattle.fx_hint.proofs.Steps.{runs, not_run, joins, not_joined, done}
use Rattle.fx_hint.proofs.RunLaws.{run_is, first_of_closed, stops_here, stops_on}
use Rattle.fx_hint.proofs.Totals.{points_with_one_more, begun_with_one_more, component_adds_points}
use Rattle.fx_hint.proofs.walk.Walk.close.Goals as goal

pub returns-in_err-run_on-clause-steps : goal.returns-in_err-run_on-clause-steps
returns-in_err-run_on-clause-steps g c =
    let p = err_from_is_err_and c.from_residual.result c.from_residual.ensures.1 in
    let v = rw c.code-code.ensures.value at c.in_err-run_on.ensures.value in
    let led = rw c.code-code.ensures.value at c.in_err-run_on.ensures.leads in
    rw (p.1, p.2) (record {
      by =
          λ start due ran made counted. stops_on g.H.Hinter.Leads g.met.H.Hinter.leads_then _ _ _ _ c.in_err-run_on.field-0.0 _
          ran.0 _ _ _ ran.1 led
          (first_of_closed _ _ _ _ _ _ c.args.inner.now _ _ _ _ ran.2 c.requires.none_left (run_is _ _ _ _ _ _ ran.0 _ refl)) v
          (λ e b. not_run _ _ _ _ _ _ c.args.inner.now _ _ _ ran.2 c.requires.none_left (run_is _ _ _ _ _ _ ran.0 _ b));
    })

pub returns-in_default-clause-steps : goal.returns-in_default-clause-steps
returns-in_default-clause-steps g c =
    let v = rw c.code-code.ensures.value at c.in_ok-run_on.ensures.value in
    let led = rw c.code-code.ensures.value at c.in_ok-run_on.ensures.leads in
    record {
      by =
          λ start due ran. record {
            by = (
              _,
              g.met.H.Hinter.leads_then _ _ _ _ _ ran.1 led,
              done _ _ _ _ _ _ _ _
                  (runs _ _ _ _ _ _ c.args.inner.now _ _ _ _ ran.2 c.requires.none_left (run_is _ _ _ _ _ _ ran.0 _ v))
                  c.in_default.ensures,
            );
          };
    }

pub add_component-requires : goal.add_component-requires
add_component-requires g c =
    let ran = c.in_ok-run_on.ensures.points in
    let all = rw c.in-Some.ensures at c.requires.counted.counted in
    let one = points_with_one_more c.pop.new.self c.in-Some.waiting in
    let few = c.requires.counted.points in
    rw (c.replace-closed.ensures.after, c.replace-closed.ensures.value) (omega (arith, all, one, ran.0, few))

pub returns-in_err-add_component-clause-steps : goal.returns-in_err-add_component-clause-steps
returns-in_err-add_component-clause-steps g c =
    let p = err_from_is_err_and c.from_residual-in_err-add_component.result c.from_residual-in_err-add_component.ensures.1 in
    let v = rw c.code-code.ensures.value at c.in_ok-run_on.ensures.value in
    let led = rw c.code-code.ensures.value at c.in_ok-run_on.ensures.leads in
    let j = rw (c.requires.on, c.replace-closed.ensures.after, c.replace-closed.ensures.value) at c.in_err-add_component.ensures in
    rw (p.1, p.2) (record {
      by =
          λ start due ran made counted. stops_here g.H.Hinter.Leads _ _ _ c.in_err-add_component.field-0.0 _ _ _ _
          (g.met.H.Hinter.leads_then _ _ _ _ _ ran.1 led)
          (first_of_closed _ _ _ _ _ _ c.args.inner.now _ _ _ _ ran.2 c.requires.none_left (run_is _ _ _ _ _ _ ran.0 _ refl)) j
          (λ e b. not_joined _ _ _ _ _ _ _ _ _ _ e
          (runs _ _ _ _ _ _ c.args.inner.now _ _ _ _ ran.2 c.requires.none_left (run_is _ _ _ _ _ _ ran.0 _ v))
          c.in-Some.ensures b);
    })

pub returns-clause-counted : goal.returns-clause-counted
returns-clause-counted g c =
    let j = rw (c.requires.on, c.replace-closed.ensures.after, c.replace-closed.ensures.value) at c.in_ok-add_component.ensures in
    let n = length-append c.pop.new.self (c.in-Some.waiting ∷ []) in
    let deep = rw c.in-Some.ensures at c.requires.counted.deep in
    let numbers = rw c.in-Some.ensures at c.requires.counted.numbered in
    let all = rw c.in-Some.ensures at c.requires.counted.counted in
    let one = points_with_one_more c.pop.new.self c.in-Some.waiting in
    let b = begun_with_one_more c.pop.new.self c.in-Some.waiting in
    let s = component_adds_points _ _ _ _ _ _ _ j in
    let r = c.in_ok-run_on.ensures.records in
    let kept = c.in_ok-run_on.ensures.points in
    let few = c.requires.counted.points in
    λ _. rw c.replace-closed.ensures.after (record {
      deep = omega (arith, n, deep);
      few = rw r c.requires.counted.few;
      numbered = omega (arith, numbers, b, r);
      counted = omega (arith, all, one, kept.0, kept.1, s);
      points = omega (arith, few, kept.1);
    })

pub returns-clause-steps : goal.returns-clause-steps
returns-clause-steps g c =
    let v = rw c.code-code.ensures.value at c.in_ok-run_on.ensures.value in
    let led = rw c.code-code.ensures.value at c.in_ok-run_on.ensures.leads in
    let j = rw (c.requires.on, c.replace-closed.ensures.after, c.replace-closed.ensures.value) at c.in_ok-add_component.ensures in
    rw c.replace-closed.ensures.after (record {
      by =
          λ start due ran. (
            _,
            g.met.H.Hinter.leads_then _ _ _ _ _ ran.1 led,
            joins _ _ _ _ _ _ _ _ _ _ _
                (runs _ _ _ _ _ _ c.args.inner.now _ _ _ _ ran.2 c.requires.none_left (run_is _ _ _ _ _ _ ran.0 _ v))
                c.in-Some.ensures j,
          );
    })
