use Rattle.std.proofs.Common.{refl}
use Rattle.fx_hint.proofs.Watching.{ran_once}
use Rattle.fx_hint.proofs.programmed.WatchedMachineHinter.run.Goals as goal

pub returns-clause-leads : goal.returns-clause-leads
returns-clause-leads g c =
    ran_once g.W.RunWatching.Sees c.args.self.now (record { machine = c.hint.new.machine; watcher = c.hint.new.watcher })
    (λ m. m.machine.known) (λ m. m.watcher) (λ w. w.watcher) (λ w. w.component) _ _ refl refl c.hint.ensures.kept _
    c.hint.ensures.watched
