use Rattle.std.proofs.Common.{◌≡◌, ◌*◌, ◌≤◌, ℤ, pos, ◌+ℤ◌, ◌*ℤ◌, sym, subst, arith}
use Rattle.fx_rows.specs.inner.Bands.{bounded_span}
use Rattle.fx_rows.specs.inner.Lines.{AreSetIn, GainOnly, IsLineBit, IsRowsBit, IsSetTo}
use Rattle.fx_rows.specs.inner.Points.{IsInner}
use Rattle.fx_rows.proofs.Bulges.{in_kept, set_in}
use Rattle.fx_rows.proofs.Kept.{rows_more, gain_both, gain_more}
use Rattle.fx_rows.proofs.bulge.note_met_lines.Goals as goal

pub note_part-requires-clause-room : goal.note_part-requires-clause-room
note_part-requires-clause-room c = grind (arith, c.requires.room, c.requires.rows, c.row-line.ensures)

pub note_part-requires-clause-outside : goal.note_part-requires-clause-outside
note_part-requires-clause-outside c =
    let s = bounded_span c.args.bounded.now in
    subst (λ (r : ℤ). ¬ (IsInner s.a.y s.c.y (pos 128 *ℤ r +ℤ pos 64))) (sym c.row-line.ensures.row)
    (c.requires.outside c.rows.up (omega arith) (omega arith))

pub rows-preserved : goal.rows-preserved
rows-preserved c =
    let s = bounded_span c.args.bounded.now in
    let f = c.args.lines.frame in
    let up = c.rows.up in
    let now = c.note_part.new.bits in
    let row_step = c.args.lines.row_step in
    let step = c.args.lines.step in
    let at = c.row-line.ensures in
    let notes = c.note_part.ensures.notes in
    let n = c.note_part.ensures.count in
    let p = c.met_part-part.ensures.few in
    let m = c.rows.invariant.count in
    record {
      notes = record {
        noted = rows_more (λ r. AreSetIn s f r (r * row_step) step now) c.args.rows.first up
            (λ r l o. in_kept s f r (r * row_step) step c.rows.bits now notes.gained.kept
            (c.rows.invariant.notes.noted r l o))
            (set_in s f up (up * row_step) step now (λ k l. (subst (λ z. z)
            (λ i. k ≤ (at.frame i).width → IsSetTo s (at.frame i) (at.row i) (at.first i) (at.step i) now k)
            (λ l. notes.noted k l tt)) l));
        gained = gain_both (IsRowsBit s f row_step step) _ _ _ c.rows.invariant.notes.gained
            (gain_more (IsLineBit s f (f.bottom +ℤ pos up) (up * c.args.lines.row_step) c.args.lines.step)
            (IsRowsBit s f row_step step) c.rows.bits now
            (λ n h. record { r = up; row = omega (arith, c.requires.rows); line = h })
            (subst (λ z. z) (λ i. GainOnly (IsLineBit s (at.frame i) (at.row i) (at.first i) (at.step i)) c.rows.bits now)
            notes.gained));
      };
      count = omega (arith, n, p, m);
    }

pub returns-clause-count : goal.returns-clause-count
returns-clause-count c =
    let e : c.rows.up ≡ c.args.rows.end = omega (arith, c.args.rows.order) in let m = c.rows.invariant.count in omega (arith, e, m)
