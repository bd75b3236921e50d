use Rattle.std.proofs.Common.{◌+◌, ◌*◌, refl}
use Rattle.fx_rows.specs.inner.Lines.{IsLineBit}
use Rattle.fx_rows.proofs.Kept.{only_one}
use Rattle.fx_rows.proofs.noted_row.set_segment.Goals as goal

pub returns-clause-only : goal.returns-clause-only
returns-clause-only c = λ s met.
    let line = c.args.line.now in
    only_one (IsLineBit s line.frame line.row line.first line.step) _ _ (line.first + c.args.k * line.step)
    (record { k = c.args.k; within = c.requires.column; at = refl; met = met }) c.set_bit.ensures.others
