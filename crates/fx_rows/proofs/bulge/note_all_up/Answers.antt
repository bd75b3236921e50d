use Rattle.std.proofs.Common.{◌≡◌, ◌∙◌, ap, ◌*◌, ◌<◌, ◌≤◌, ℕ, subst}
use Rattle.fx_winding.specs.Turned.{turned_span}
use Rattle.fx_winding.specs.Bitmaps.{words_for}
use Rattle.fx_winding.specs.Winding.{span_of}
use Rattle.fx_rows.specs.inner.Lines.{AreSetIn, GainOnly, IsRowsBit, IsUpBit}
use Rattle.fx_rows.proofs.Bulges.{up_set}
use Rattle.fx_rows.proofs.Kept.{gain_more}
use Rattle.fx_rows.proofs.NotedSegments.{up_bit}
use Rattle.fx_rows.proofs.bulge.note_all_up.Goals as goal

pub returns-clause-noted : goal.returns-clause-noted
returns-clause-noted c = λ z r l.
    let f = c.args.frame in
    let s = span_of c.args.piece.now in
    let g = c.turned.result in
    let at = c.turned.ensures in
    let is = ap span_of c.bounds_of.ensures.piece ∙ c.turned-turned.ensures in
    let row : 32 * c.words_for.result ≡ 32 * words_for f.width = ap (λ (w : ℕ). 32 * w) c.words_for.ensures in
    up_set s f g c.note_lines.new.bits at.left at.bottom at.width at.height (subst (λ z. z)
    (λ i. (q : ℕ) → 0 ≤ q → q < g.height → AreSetIn (is i) g q (q * 1) (row i) c.note_lines.new.bits)
    c.note_lines.ensures.notes.noted) r l

pub returns-clause-gained : goal.returns-clause-gained
returns-clause-gained c =
    let f = c.args.frame in
    let s = span_of c.args.piece.now in
    let g = c.turned.result in
    let at = c.turned.ensures in
    let is = ap span_of c.bounds_of.ensures.piece ∙ c.turned-turned.ensures in
    let row : 32 * c.words_for.result ≡ 32 * words_for f.width = ap (λ (w : ℕ). 32 * w) c.words_for.ensures in
    gain_more (IsRowsBit (turned_span s) g 1 (32 * words_for f.width)) (IsUpBit s f) c.args.up.now c.note_lines.new.bits
    (λ n. up_bit s f g n at.left at.bottom at.width at.height)
    (subst (λ z. z) (λ i. GainOnly (IsRowsBit (is i) g 1 (row i)) c.args.up.now c.note_lines.new.bits)
    c.note_lines.ensures.notes.gained)
