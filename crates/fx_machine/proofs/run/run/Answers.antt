use Rattle.std.proofs.Common.{◌≡◌, ◌+◌, ◌-◌, ◌∙◌, refl, sym, arith, rules}
use Rattle.fx_pointops.proofs.Keeping.{shapes_same, shapes_then}
use Rattle.fx_machine.proofs.Keeping.{sized, sized_then}
use Rattle.fx_machine.proofs.Looping.{halted_here, stepped, unseen_halt, unseen_end}
use Rattle.fx_machine.proofs.Watched.{seen_first, seen_one, seen_all, seen_stopped, stopped_first, stopped_one}
use Rattle.fx_machine.proofs.Stepping.{events_begin, one_event}
use Rattle.fx_machine.proofs.run.run.Goals as goal

pub steps-init : goal.steps-init
steps-init g c =
    let none : c.args.limit - c.args.limit ≡ 0 = omega arith in
    record {
      answer = rw none (search rules);
      watched = seen_first _ (events_begin _ _ _ _ _ c.new.result.items (search rules)) (rw c.name.ensures at c.begin.ensures);
      early = stopped_first _ (events_begin _ _ _ _ _ c.new.result.items (search rules)) (rw c.name.ensures at c.begin.ensures);
      bytes = cc;
      counted = omega arith;
      shapes = shapes_same c.args.state.now.zones;
      sizes = sized c.args.state.now;
      targets = c.requires;
    }

pub returns-then-stops-clause-watched : goal.returns-then-stops-clause-watched
returns-then-stops-clause-watched g c = seen_stopped g.W.Watching.Sees c.steps.invariant.watched
    (g.W.Watching.sees_no_more _ (sym c.stops.ensures ∙ c.if-stops.true))

pub returns-then-left-eq0-clause-watched : goal.returns-then-left-eq0-clause-watched
returns-then-left-eq0-clause-watched g c = seen_all c.steps.invariant.watched
    (unseen_end _ _ c.args.start _ 0 c.steps.calls.open_calls.items _ _ _ (search rules))

pub returns-in-Err-clause-watched : goal.returns-in-Err-clause-watched
returns-in-Err-clause-watched g c = seen_all c.steps.invariant.watched
    (unseen_halt _ _ c.args.start _ 0 c.steps.calls.open_calls.items _ _ c.steps.state _
    (rw c.steps.invariant.bytes at c.in-Err.ensures.moved))

pub returns-in-Err-clause-value : goal.returns-in-Err-clause-value
returns-in-Err-clause-value g c =
    rw c.halted-in-Err.ensures (λ _.
    halted_here _ _ _ _ _ c.steps.state _ _ c.steps.calls.open_calls.items _ _ c.steps.invariant.answer _ (omega arith)
    (rw c.steps.invariant.bytes at c.in-Err.ensures.moved))

pub returns-in-Err-clause-shapes : goal.returns-in-Err-clause-shapes
returns-in-Err-clause-shapes g c = shapes_then _ _ _ c.steps.invariant.shapes c.in-Err.ensures.shapes

pub returns-in-Err-clause-sizes : goal.returns-in-Err-clause-sizes
returns-in-Err-clause-sizes g c = sized_then c.steps.invariant.sizes c.in-Err.ensures.sizes

pub steps-preserved : goal.steps-preserved
steps-preserved g c =
    let next : c.args.limit - (c.steps.left - 1) ≡ c.args.limit - c.steps.left + 1 = omega arith in
    record {
      answer = rw next (stepped _ 0 _ _ _ _ _ _ c.steps.calls.open_calls.items _ _ c.steps.invariant.answer _ (omega arith)
          (rw c.steps.invariant.bytes at c.in-Ok.ensures.moved));
      watched = seen_one c.steps.invariant.watched
          (one_event _ _ _ _ _ _ _ c.advance.new.calls.open_calls.items c.advance.new.cursor.program c.advance.new.cursor.address
          c.advance.new.state _ refl (omega arith) (rw c.steps.invariant.bytes at c.in-Ok.ensures.moved))
          (rw (c.name-name.ensures, c.steps.invariant.bytes) at c.tell.ensures);
      early = stopped_one c.steps.invariant.early (sym c.stops.ensures ∙ c.if-stops.false)
          (one_event _ _ _ _ _ _ _ c.advance.new.calls.open_calls.items c.advance.new.cursor.program c.advance.new.cursor.address
          c.advance.new.state _ refl (omega arith) (rw c.steps.invariant.bytes at c.in-Ok.ensures.moved))
          (rw (c.name-name.ensures, c.steps.invariant.bytes) at c.tell.ensures);
      bytes = c.bytes_then-bytes.ensures;
      counted = omega arith;
      shapes = shapes_then _ _ _ c.steps.invariant.shapes c.in-Ok.ensures.shapes;
      sizes = sized_then c.steps.invariant.sizes c.in-Ok.ensures.sizes;
      targets = c.in-Ok.ensures.targets ∙ c.steps.invariant.targets;
    }
