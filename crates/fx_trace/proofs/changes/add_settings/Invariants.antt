use Rattle.std.proofs.Common.{ℕ}
use Rattle.fx_trace.specs.Changes.{setting_change}
use Rattle.fx_trace.proofs.Pairs.{SaysBefore}
use Rattle.fx_trace.proofs.changes.add_settings.Given as goal

-- the changes of the settings before i were added
abbrev pub invariant-settings : goal.invariant-settings
invariant-settings g l = SaysBefore (λ (n : ℕ). setting_change) l.fn.text l.text l.was l.now l.i
