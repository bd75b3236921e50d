use Rattle.std.proofs.Common.{◌∙◌, sym}
use Rattle.fx_arguments.proofs.Options.{rows_refused, rows_taken}
use Rattle.fx_arguments.proofs.values.matches.Goals as goal

pub returns-in-Ok-clause-taken : goal.returns-in-Ok-clause-taken
returns-in-Ok-clause-taken c =
    rows_taken c.args.verb _ _ _ c.in_ok-command.ensures (sym c.has_bare.ensures ∙ c.if-has_bare.false) c.in-Ok.ensures.matches
    c.in-Ok.ensures.kinds

pub returns-in-Err-clause-refused : goal.returns-in-Err-clause-refused
returns-in-Err-clause-refused c =
    rows_refused c.args.verb _ _ _ c.fault_of.result c.in_ok-command.ensures c.in-Err.ensures.kinds
    (λ memory. c.fault_of.ensures.memory (c.kind.ensures ∙ memory)) c.fault_of.ensures.cases
