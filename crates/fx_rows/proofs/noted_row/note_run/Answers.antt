use Rattle.std.proofs.Common.{◌≡◌, inl, inr, subst, sym, ◌+ℤ◌, pos, Option, arith}
use Rattle.fx_fixed.proofs.Linear.{signed_linear}
use Rattle.fx_rows.specs.declared.part.Run.{Run}
use Rattle.fx_rows.specs.inner.Lines.{IsRunEnd}
use Rattle.fx_rows.specs.inner.Sums.{IsInside}
use Rattle.fx_rows.proofs.Bulges.{run_met, set_kept}
use Rattle.fx_rows.proofs.Kept.{gain_both}
use Rattle.fx_rows.proofs.noted_row.note_run.Goals as goal

pub returns-in-Some : goal.returns-in-Some
returns-in-Some c = λ s is out.
    let line = c.args.line.now in
    let f = line.frame in
    let r = c.in-Some.run' in
    let near = subst (λ (o : Option Run). IsInside f o) c.in-Some.is c.requires.inside in
    let at = c.columns_to.ensures.at in
    let after = c.columns_to-in-Some.ensures.at in
    let first : f.left +ℤ pos c.columns_to.result ≡ r.first = omega (arith, signed_linear, at, near, f.columns) in
    let last : f.left +ℤ pos c.columns_to-in-Some.result ≡ r.last +ℤ pos 1 =
    omega (arith, signed_linear, after, near, f.columns) in
    let back = subst (λ (o : Option Run). IsRunEnd f o c.columns_to.result) (sym c.in-Some.is) (inl first) in
    let back' = subst (λ (o : Option Run). IsRunEnd f o c.columns_to-in-Some.result) (sym c.in-Some.is) (inr last) in
    let low = c.note_column.ensures s (λ o l. run_met s f line.row c.args.part.now _ is out o l back) in
    let high = c.note_column-in-Some.ensures s (λ o l. run_met s f line.row c.args.part.now _ is out o l back') in
    record {
      noted = λ k l a. elim (subst (λ (o : Option Run). IsRunEnd f o k) c.in-Some.is a.2) [
        | inl e ↦ set_kept s f line.row line.first line.step k _ _ high.gained.kept
            (low.noted k l (a.0, a.1, omega (arith, signed_linear, e, first)))
        | inr e ↦ high.noted k l (a.0, a.1, omega (arith, signed_linear, e, last))
      ];
      gained = gain_both _ _ _ _ low.gained high.gained;
    }
