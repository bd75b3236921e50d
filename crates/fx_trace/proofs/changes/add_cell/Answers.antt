use Rattle.std.proofs.Common.{◌≡◌, rules, true}
use Rattle.std.specs.Ordering.{int_eq}
use Rattle.fx_trace.specs.Changes.{change}
use Rattle.fx_trace.proofs.Texts.{says_none}
use Rattle.fx_trace.proofs.changes.add_cell.Goals as goal

pub returns-then-was-now : goal.returns-then-was-now
unfolding change
returns-then-was-now g c =
    let same : int_eq c.args.was.now c.args.now.now ≡ true = search rules in says_none _ same
