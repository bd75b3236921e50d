use Rattle.std.proofs.Common.{subst, sym}
use Rattle.fx_winding.specs.Winding.{span_of}
use Rattle.fx_rows.specs.inner.Lines.{IsSetTo}
use Rattle.fx_rows.proofs.noted_row.note_tested.Goals as goal

pub returns-then-test_segment-clause-notes : goal.returns-then-test_segment-clause-notes
returns-then-test_segment-clause-notes c =
    let s = span_of c.args.piece.now in
    let line = c.args.line.now in
    record {
      noted = λ j l e. subst (IsSetTo s line.frame line.row line.first line.step c.set_segment.new.bits) (sym e)
          (c.set_segment.ensures.set s);
      gained = record {
        kept = c.set_segment.ensures.kept;
        only = c.set_segment.ensures.only s (λ p q. c.test_segment.ensures.value.0 c.if-test_segment.true);
      };
    }
