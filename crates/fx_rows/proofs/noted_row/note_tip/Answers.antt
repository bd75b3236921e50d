use Rattle.std.proofs.Common.{◌≡◌, ◌∙◌, ◌+◌, ◌-◌, ◌+ℤ◌, ◌-ℤ◌, pos, subst, sym, arith, w32, to_z, of_z}
use Rattle.fx_fixed.proofs.Linear.{signed, signed_linear}
use Rattle.fx_winding.specs.Meets.{IsTipPart}
use Rattle.fx_winding.specs.Winding.{place_of, maybe_place_of, span_of, centre}
use Rattle.fx_rows.specs.inner.Lines.{left_at, right_at}
use Rattle.fx_rows.proofs.MetRuns.{among_no_tip}
use Rattle.fx_rows.specs.inner.Sides.{place_at}
use Rattle.fx_rows.proofs.Kept.{notes_none}
use Rattle.fx_rows.proofs.noted_row.note_tip.Goals as goal

pub returns-in-Some-clause-notes : goal.returns-in-Some-clause-notes
returns-in-Some-clause-notes c = record {
  noted = λ k l a.
      let line = c.args.line.now in
      let f = line.frame in
      let s = c.strip_of-strip.result in
      let at = c.strip_of-strip.ensures in
      let p = span_of c.args.piece.now in
      let j = k - 1 in
      let same : to_z w32 (of_z w32 line.row) ≡ line.row = omega (arith, signed_linear, line.row_near) in
      let row : line.row ≡ s.row = sym (at.row ∙ same) in
      let left : (f.left -ℤ pos 1) +ℤ pos k ≡ s.base +ℤ pos j = omega (arith, signed_linear, at.base, a.0) in
      let right : f.left +ℤ pos k ≡ s.base +ℤ pos (j + 1) = omega (arith, signed_linear, at.base, a.0) in
      let here : IsTipPart p.a p.b p.c (place_at s j) (place_at s (j + 1)) =
      subst (λ z. z) (λ i. IsTipPart p.a p.b p.c (centre (left i) (row i)) (centre (right i) (row i))) a.2 in
      let is = c.tip_column-end.ensures.only j (omega (arith, at.stop, a.1, a.0)) here in
      let e : c.tip_column-end.result ≡ k = omega (arith, is, a.0) in
      c.note_outside.ensures.notes.noted k l (a.0, a.1, (sym e, a.2));
  gained = c.note_outside.ensures.notes.gained;
}

pub returns-then-is_among-clause-notes : goal.returns-then-is_among-clause-notes
returns-then-is_among-clause-notes c =
    let line = c.args.line.now in
    let r = c.args.rise in
    let is = c.is_among.ensures c.if-is_among.true in
    notes_none _ line _ _ (λ k l a met. among_no_tip (span_of c.args.piece.now) r.foot r.head r.value
    (left_at line.frame line.row k) (right_at line.frame line.row k) c.requires.rise (omega (arith, signed, is, line.row_near))
    (omega (arith, signed, is, line.row_near)) a.2)

pub returns-in_default-clause-notes : goal.returns-in_default-clause-notes
returns-in_default-clause-notes c =
    let line = c.args.line.now in
    let s = c.args.piece.now in
    notes_none _ line _ _ (λ k l a met. subst (λ b. IsTipPart (place_of s.a) (maybe_place_of b) (place_of s.c)
    (left_at line.frame line.row k) (right_at line.frame line.row k)) c.in_default.is a.2)
