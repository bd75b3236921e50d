use Rattle.fx_machine.specs.declared.program.FontProgram.TheVariants.{Fpgm, Prep}
use Rattle.fx_views.proofs.TracesTold.{refused_tells, told_as}
use Rattle.fx_views.proofs.trace.trace_opened.Goals as goal

pub returns-in-Program-Fpgm : goal.returns-in-Program-Fpgm
returns-in-Program-Fpgm g c =
    rw (c.in-Program-Fpgm.is, c.refused_as.ensures)
    (told_as c.args.opened.now c.in-Program-Fpgm.field-0 Fpgm _ _ (rw c.in-Program-Fpgm.is at c.in-Program-Fpgm.field-0-is)
    (refused_tells _ _ _ c.trace_fpgm.ensures))

pub returns-in-Program-Prep : goal.returns-in-Program-Prep
returns-in-Program-Prep g c =
    rw (c.in-Program-Prep.is, c.refused_as-in-Program-Prep.ensures)
    (told_as c.args.opened.now c.in-Program-Prep.field-0 Prep _ _ (rw c.in-Program-Prep.is at c.in-Program-Prep.field-0-is)
    (refused_tells _ _ _ c.trace_prep.ensures))
