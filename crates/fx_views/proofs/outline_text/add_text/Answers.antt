use Rattle.std.proofs.Common.{arith, append-nil}
use Rattle.fx_views.proofs.OutlineLines.{few_all, few_then}
use Rattle.fx_views.proofs.outline_text.add_text.Goals as goal

pub returns-clause-text : goal.returns-clause-text
returns-clause-text g c =
    few_then {n = 0} c.end.result (omega arith) (append-nil _) c.in_ok-add_outline.ensures
    (few_all c.end.ensures.adds (omega arith))
