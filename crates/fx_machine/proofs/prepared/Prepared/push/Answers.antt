use Rattle.fx_machine.proofs.BlockMachines.{all_added}
use Rattle.fx_machine.proofs.prepared.Prepared.push.Goals as goal

pub returns-clause-words : goal.returns-clause-words
returns-clause-words c = all_added _ _ _ _ _ _ _ _ _ _ _ c.in_ok-push_sizes.ensures c.in_ok-push_usage.ensures
    c.in_ok-push_start.ensures.words c.in_ok-push_flags.ensures c.in_ok-push_lists.ensures.words
