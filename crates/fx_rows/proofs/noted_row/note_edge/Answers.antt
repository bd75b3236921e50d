use Rattle.std.proofs.Common.{arith}
use Rattle.fx_fixed.proofs.Linear.{signed_linear}
use Rattle.fx_winding.specs.Winding.{span_of}
use Rattle.fx_winding.proofs.Numbered.{right_column}
use Rattle.fx_rows.proofs.Bulges.{met_first, met_last}
use Rattle.fx_rows.proofs.Kept.{notes_none}
use Rattle.fx_rows.proofs.noted_row.note_edge.Goals.{else-across-right-via-then-across-right+else-right-across, else-across-right-via-else-across-right}
use Rattle.fx_rows.proofs.noted_row.note_edge.Goals as goal

pub returns-else-across-right-clause-notes : goal.returns-else-across-right-clause-notes
returns-else-across-right-clause-notes c = notes_none _ c.args.line.now _ _ (λ k l e met.
    let s = span_of c.args.piece.now in
    let line = c.args.line.now in
    let across = c.args.across in
    let first = met_first s line.frame across.first across.end line.row k c.requires.across met in
    let last = met_last s line.frame across.first across.end line.row k c.requires.across met in
    let right = right_column line.frame c.args.k c.requires.column in
    elim c.else-across-right.branch [
      | else-across-right-via-then-across-right+else-right-across w ↦
          omega (arith, signed_linear, last, e, right, w.if-right-across.false)
      | else-across-right-via-else-across-right w ↦ omega (arith, signed_linear, first, e, right, w.if-across-right.false)
    ])
