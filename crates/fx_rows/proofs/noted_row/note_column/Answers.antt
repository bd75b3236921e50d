use Rattle.std.proofs.Common.{subst, sym}
use Rattle.fx_rows.specs.inner.Lines.{IsSetTo}
use Rattle.fx_rows.proofs.noted_row.note_column.Goals as goal

pub returns-then-k-line : goal.returns-then-k-line
returns-then-k-line c = λ s met.
    let line = c.args.line.now in
    record {
      noted = λ j l a. subst (IsSetTo s line.frame line.row line.first line.step c.set_segment.new.bits) (sym a.2)
          (c.set_segment.ensures.set s);
      gained = record {
        kept = c.set_segment.ensures.kept;
        only = c.set_segment.ensures.only s (met c.if-k-gt0.true c.if-k-line.true);
      };
    }
