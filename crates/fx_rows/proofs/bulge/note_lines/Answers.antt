use Rattle.std.proofs.Common.{◌*◌, arith}
use Rattle.fx_winding.specs.Winding.{span_of}
use Rattle.fx_rows.specs.inner.Lines.{AreSetIn}
use Rattle.fx_rows.proofs.Bulges.{all_rows_set, in_kept}
use Rattle.fx_rows.proofs.Kept.{kept_both, rows_three, gain_both}
use Rattle.fx_rows.proofs.Telling.{between_of, outside_below, outside_above}
use Rattle.fx_rows.proofs.bulge.note_lines.Goals as goal

pub note_met_lines-requires-clause-outside : goal.note_met_lines-requires-clause-outside
note_met_lines-requires-clause-outside c =
    let b = c.args.bounded.now in
    let is = between_of (span_of b.piece) b.rise.foot b.rise.head b.rise.value c.args.lines.frame c.rows_met-rows.result
    c.rows_between-inner.result b.rises c.rows_between-inner.ensures in
    outside_below (span_of b.piece) c.args.lines.frame _ _ c.rows_between-inner.result is

pub note_passed_lines-requires-clause-inner : goal.note_passed_lines-requires-clause-inner
note_passed_lines-requires-clause-inner c =
    let b = c.args.bounded.now in
    let is = between_of (span_of b.piece) b.rise.foot b.rise.head b.rise.value c.args.lines.frame c.rows_met-rows.result
    c.rows_between-inner.result b.rises c.rows_between-inner.ensures in
    record { within = omega (arith, is.high, c.rows_met-rows.ensures.within); inner = is.inner }

pub note_met_lines-requires-2-clause-outside : goal.note_met_lines-requires-2-clause-outside
note_met_lines-requires-2-clause-outside c =
    let b = c.args.bounded.now in
    let is = between_of (span_of b.piece) b.rise.foot b.rise.head b.rise.value c.args.lines.frame c.rows_met-rows.result
    c.rows_between-inner.result b.rises c.rows_between-inner.ensures in
    outside_above (span_of b.piece) c.args.lines.frame _ _ c.rows_between-inner.result is

pub returns-clause-notes : goal.returns-clause-notes
returns-clause-notes c =
    let f = c.args.lines.frame in
    let s = span_of c.args.bounded.now.piece in
    let rows = c.rows_met-rows.result in
    let inner = c.rows_between-inner.result in
    let step = c.args.lines.step in
    let last = c.note_met_lines-2.new.bits in
    let k2 = c.note_met_lines-2.ensures.notes.gained.kept in
    record {
      noted = all_rows_set s f 0 rows.first rows.end f.height c.args.lines.row_step step last
          (λ r l. c.rows_met-rows.ensures.below r) c.rows_met-rows.ensures.above
          (rows_three (λ q. AreSetIn s f q (q * c.args.lines.row_step) step last) rows.first inner.first inner.end rows.end
          (λ q a b. in_kept s f q (q * c.args.lines.row_step) step c.note_met_lines.new.bits last
          (kept_both _ _ _ c.note_passed_lines.ensures.notes.gained.kept k2) (c.note_met_lines.ensures.notes.noted q a b))
          (λ q a b. in_kept s f q (q * c.args.lines.row_step) step c.note_passed_lines.new.bits last k2
          (c.note_passed_lines.ensures.notes.noted q a b))
          c.note_met_lines-2.ensures.notes.noted);
      gained = grind (
        arith,
        c.note_met_lines.ensures,
        c.note_passed_lines.ensures,
        c.note_met_lines-2.ensures,
        gain_both,
      );
    }
