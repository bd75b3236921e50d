use Rattle.std.proofs.Common.{◌≡◌, ◌-◌, subst, sym, arith}
use Rattle.fx_winding.proofs.Places.{clash}
use Rattle.fx_rows.specs.inner.Lines.{IsSetTo}
use Rattle.fx_rows.proofs.Kept.{notes_none}
use Rattle.fx_rows.proofs.noted_row.set_cut.Goals as goal

pub returns-then-has_segment : goal.returns-then-has_segment
returns-then-has_segment c = λ s met.
    let line = c.args.line.now in
    let inside = c.has_segment.ensures.0 c.if-has_segment.true in
    record {
      noted = λ k l e.
          let at : k ≡ c.args.end - 1 = omega (arith, e) in
          subst (IsSetTo s line.frame line.row line.first line.step c.set_segment.new.bits) (sym at) (c.set_segment.ensures.set s);
      gained = record {
        kept = c.set_segment.ensures.kept;
        only = c.set_segment.ensures.only s (met (c.args.end - 1) (omega (arith, inside)) (omega (arith, inside)));
      };
    }

pub returns-else-has_segment : goal.returns-else-has_segment
returns-else-has_segment c = λ s met. notes_none s c.args.line.now _ _ (λ k l e m.
    clash c.has_segment.result c.if-has_segment.false (c.has_segment.ensures.1 (omega (arith, e), omega (arith, e, l))))
