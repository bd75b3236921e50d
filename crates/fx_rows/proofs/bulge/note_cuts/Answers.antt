use Rattle.std.proofs.Common.{◌∙◌, ◌+◌, ◌*◌, ◌≤◌, ℕ, ℤ, pos, ◌+ℤ◌, ◌-ℤ◌, ◌*ℤ◌, ap, sym, subst, arith}
use Rattle.fx_winding.specs.declared.frame.Frame.{Frame}
use Rattle.fx_rows.specs.inner.Bands.{bounded_span}
use Rattle.fx_rows.specs.inner.Lines.{AreSetIn, GainOnly, IsLineBit, IsRowsBit, IsSetTo}
use Rattle.fx_rows.specs.inner.Points.{IsInner}
use Rattle.fx_rows.proofs.Bulges.{in_kept, set_in}
use Rattle.fx_rows.proofs.Kept.{rows_more, gain_both, gain_more}
use Rattle.fx_rows.proofs.RowMeets.{strip_met}
use Rattle.fx_rows.proofs.Stepping.{at_edge, at_edge_above}
use Rattle.fx_rows.proofs.bulge.note_cuts.Goals as goal

pub rows-init : goal.rows-init
rows-init g c = grind (arith, c.requires.at)

pub end-requires-clause-inner : goal.end-requires-clause-inner
end-requires-clause-inner g c =
    let p = c.args.bounded.now.piece in
    subst (λ (r : ℤ). IsInner p.a.y p.c.y (pos 128 *ℤ r +ℤ pos 64)) (sym (c.strip-strip.ensures.row ∙ c.row-line.ensures.row))
    (c.requires.inner.inner c.rows.up (omega arith) (omega arith))

pub end-requires-clause-at : goal.end-requires-clause-at
end-requires-clause-at g c =
    let at = c.strip-strip.ensures in
    let of = c.row-line.ensures in
    at_edge (g.C.Cuts.AreAt c.rows.cuts c.args.bounded.now) c.args.lines.frame c.strip-strip.result c.rows.up (at.row ∙ of.row)
    (at.base ∙ ap (λ (f : Frame). f.left -ℤ pos 1) of.frame) (at.stop ∙ ap (λ (f : Frame). f.width + 2) of.frame)
    (c.rows.invariant.at (omega arith))

pub set_cut-requires : goal.set_cut-requires
set_cut-requires g c = grind (arith, c.requires.room, c.requires.inner.within, c.row-line.ensures)

pub rows-preserved : goal.rows-preserved
rows-preserved g c =
    let s = bounded_span c.args.bounded.now in
    let f = c.args.lines.frame in
    let up = c.rows.up in
    let now = c.set_cut.new.bits in
    let row_step = c.args.lines.row_step in
    let step = c.args.lines.step in
    let end = c.end.result in
    let line = c.row-line.result in
    let of = c.row-line.ensures in
    let strip = c.strip-strip.result in
    let at = c.strip-strip.ensures in
    let inner = subst (λ (r : ℤ). IsInner s.a.y s.c.y (pos 128 *ℤ r +ℤ pos 64)) (sym of.row)
    (c.requires.inner.inner up (omega arith) (omega arith)) in
    let set = c.set_cut.ensures s (λ k l e off off'. (strip_met s line.frame strip line.row end k at.row at.base at.stop inner
    c.end.ensures.end l off off').1 e) in
    let here : (k : ℕ) → k ≤ line.frame.width → IsSetTo s line.frame line.row line.first line.step now k =
    λ k l off off' met. set.noted k l ((strip_met s line.frame strip line.row end k at.row at.base at.stop inner c.end.ensures.end
    l off off').0 met) off off' met in
    record {
      notes = record {
        noted = rows_more (λ r. AreSetIn s f r (r * row_step) step now) c.args.rows.first up
            (λ r l o. in_kept s f r (r * row_step) step c.rows.bits now set.gained.kept
            (c.rows.invariant.notes.noted r l o))
            (set_in s f up (up * row_step) step now (subst (λ z. z)
            (λ i. (k : ℕ) → k ≤ (of.frame i).width → IsSetTo s (of.frame i) (of.row i) (of.first i) (of.step i) now k) here));
        gained = gain_both (IsRowsBit s f row_step step) _ _ _ c.rows.invariant.notes.gained
            (gain_more (IsLineBit s f (f.bottom +ℤ pos up) (up * row_step) step)
            (IsRowsBit s f row_step step) c.rows.bits now
            (λ n h. record { r = up; row = omega (arith, c.requires.inner.within); line = h })
            (subst (λ z. z) (λ i. GainOnly (IsLineBit s (of.frame i) (of.row i) (of.first i) (of.step i)) c.rows.bits now)
            set.gained));
      };
      at = λ h. at_edge_above (g.C.Cuts.AreAt c.move_up.new.self c.args.bounded.now) f strip up (at.row ∙ of.row)
          (at.base ∙ ap (λ (x : Frame). x.left -ℤ pos 1) of.frame) (at.stop ∙ ap (λ (x : Frame). x.width + 2) of.frame)
          c.move_up.ensures;
    }
