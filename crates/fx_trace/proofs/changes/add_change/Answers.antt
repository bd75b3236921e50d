use Rattle.std.proofs.Common.{sym, ◌∙◌}
use Rattle.fx_trace.specs.Changes.{change}
use Rattle.fx_trace.proofs.Texts.{says_none, says_some, says_then}
use Rattle.fx_trace.proofs.changes.add_change.Goals as goal

pub returns-then-is_same : goal.returns-then-is_same
unfolding change
returns-then-is_same g c = says_none _ (sym c.is_same.ensures ∙ c.if-is_same.true)

pub returns : goal.returns
unfolding change
returns g c =
    says_some (sym c.is_same.ensures ∙ c.if-is_same.false)
    (says_then c.add.ensures (says_then c.add_values.ensures c.add_values-2.ensures))
