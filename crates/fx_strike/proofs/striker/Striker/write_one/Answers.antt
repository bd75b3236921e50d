use Rattle.std.proofs.Common.{arith}
use Rattle.fx_strike.proofs.Exits.{came}
use Rattle.fx_strike.proofs.Fates.{can_be_made}
use Rattle.fx_strike.proofs.Lines.{lines_fate, lines_memory, part_as, part_memory}
use Rattle.fx_strike.proofs.striker.Striker.write_one.Goals as goal

pub write_fate-written-requires-clause-drawable : goal.write_fate-written-requires-clause-drawable
write_fate-written-requires-clause-drawable g c =
    can_be_made _ c.args.refused c.args.m.code c.args.m.glyph c.in_ok-fate.fate (c.in_ok-fate.ensures).fate c.requires.code

pub returns-in_err-fate-clause-lines : goal.returns-in_err-fate-clause-lines
returns-in_err-fate-clause-lines g c =
    rw (came c.from_residual.result c.from_residual.ensures.1)
    (part_memory (lines_memory c.args.m _ (c.in_err-fate.ensures).fate))

pub returns-clause-lines : goal.returns-clause-lines
returns-clause-lines g c =
    part_as c.write_fate-written.result (omega arith) (lines_fate c.args.m c.in_ok-fate.fate (c.in_ok-fate.ensures).fate)
    c.write_fate-written.ensures.lines
