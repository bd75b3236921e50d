use Rattle.std.proofs.Common.{◌≡◌, ◌-◌, ◌≤◌}
use Rattle.fx_machine.specs.Programs.{texts}
use Rattle.fx_machine.specs.Machine.{answer_from, answer_of}
use Rattle.fx_machine.specs.Table.{row_at}
use Rattle.fx_machine.specs.Configs.{config_of}
use Rattle.fx_machine.specs.Events.{events_of}
use Rattle.fx_pointops.specs.Zones.{HasShapes}
use Rattle.fx_machine.specs.Shapes.{HasSizes}
use Rattle.fx_machine.proofs.Watched.{HasSeen, HasStopped}
use Rattle.fx_machine.proofs.Stepping.{left_events}
use Rattle.fx_machine.proofs.run.run.Given as goal

-- the answer is what is answered from here, and a watcher that sees what is left from here has seen all
abbrev pub invariant-steps : goal.invariant-steps
invariant-steps g l = record {
  answer : answer_of (row_at (texts l.programs)) l.limit l.start l.fn.state ≡ answer_from (row_at (texts l.programs))
      l.left (l.limit - l.left) (config_of l.cursor l.calls l.state);
  watched : HasSeen g.W.Watching.Sees l.fn.watcher l.watcher
      (events_of (texts l.programs) l.programs.number l.limit l.start l.fn.state)
      (left_events (texts l.programs) l.programs.number l.left (config_of l.cursor l.calls l.state));
  early : HasStopped g.W.Watching.Sees g.W.Watching.stops l.fn.watcher l.watcher l.state
      (events_of (texts l.programs) l.programs.number l.limit l.start l.fn.state)
      (left_events (texts l.programs) l.programs.number l.left (config_of l.cursor l.calls l.state));
  bytes : l.bytes ≡ texts l.programs l.cursor.program;
  counted : l.left ≤ l.limit;
  shapes : HasShapes l.fn.state.zones l.state.zones;
  sizes : HasSizes l.fn.state l.state;
  targets : l.targets ≡ l.programs.font;
}

abbrev pub decreases-steps : goal.decreases-steps
decreases-steps g l = l.left
