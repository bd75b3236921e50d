use Rattle.std.proofs.Common.{◌≡◌, ◌+ℤ◌, ◌-ℤ◌, ◌∙◌, ◌<◌, ap, subst, ℤ, pos, arith, w32, to_z, of_z}
use Rattle.std.proofs.lemmas.Int.{to_z_pos}
use Rattle.fx_fixed.proofs.Linear.{signed_linear}
use Rattle.fx_winding.specs.Winding.{span_of, region, centre}
use Rattle.fx_rows.specs.inner.Lines.{left_at, right_at, HasTip}
use Rattle.fx_rows.specs.inner.Sums.{value_at}
use Rattle.fx_rows.proofs.MetRuns.{left_in, tip_outside}
use Rattle.fx_rows.proofs.Counted.{run_at}
use Rattle.fx_rows.proofs.Kept.{notes_none}
use Rattle.fx_rows.proofs.noted_row.note_outside.Goals as goal

pub returns-clause-notes : goal.returns-clause-notes
returns-clause-notes c = record {
  noted = λ j l a. c.note_tested.ensures.notes.noted j l a.2.0;
  gained = c.note_tested.ensures.notes.gained;
}

pub returns-then-run_at-ne0-clause-notes : goal.returns-then-run_at-ne0-clause-notes
returns-then-run_at-ne0-clause-notes c =
    let line = c.args.line.now in
    let f = line.frame in
    let k = c.args.k in
    let s = span_of c.args.piece.now in
    notes_none s line _ _ (λ j m a met.
    let o : 0 < k = omega (arith, a.0, a.2.0) in
    let l : k < f.width = omega (arith, a.1, a.2.0) in
    let tip = subst (HasTip s line) a.2.0 a.2.1 in
    let run = c.args.part.now.region in
    let wide = f.columns.few in
    let step : to_z w32 k ≡ pos k = to_z_pos w32 k (omega (arith, wide, l)) in
    let left : to_z w32 (of_z w32 (to_z w32 (of_z w32 (to_z w32 (of_z w32 f.left) -ℤ pos 1)) +ℤ to_z w32 k))
    ≡ (f.left -ℤ pos 1) +ℤ pos k = omega (arith, signed_linear, step, f.columns, o, l) in
    let at : value_at run ((f.left -ℤ pos 1) +ℤ pos k) ≡ region (left_at f line.row k) s =
    run_at (λ x. region (centre x line.row) s) f run ((f.left -ℤ pos 1) +ℤ pos k) c.requires.part.regions (left_in f k o l) in
    let none : region (left_at f line.row k) s ≡ pos 0 =
    tip_outside s.a s.b s.c (left_at f line.row k) (right_at f line.row k) tip in
    c.if-run_at-ne0.true (ap (of_z w32) (c.run_at.ensures ∙ ap (λ (x : ℤ). value_at run x) left ∙ at ∙ none)))
