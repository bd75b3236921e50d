use Rattle.std.proofs.Common.{◌≡◌, ◌∙◌, ap, subst, pos, ◌+ℤ◌, ◌*ℤ◌, ◌<ℤ◌, ◌≤ℤ◌, ℤ, sym, arith, w32, to_z, of_z}
use Rattle.fx_fixed.proofs.Linear.{signed, signed_linear}
use Rattle.fx_rows.specs.inner.Runs.{IsSplit}
use Rattle.fx_rows.proofs.Bulges.{end_met, segment_ended}
use Rattle.fx_rows.proofs.Kept.{notes_none}
use Rattle.fx_rows.proofs.noted_row.note_end.Goals as goal

pub returns-then-e-line : goal.returns-then-e-line
returns-then-e-line c = λ s is.
    let near = c.args.line.now.row_near in
    let row : to_z w32 (of_z w32 c.args.line.now.row) ≡ c.args.line.now.row = omega (arith, signed_linear, near) in
    let times : to_z w32 (of_z w32 (pos 128 *ℤ to_z w32 (of_z w32 c.args.line.now.row))) ≡ pos 128 *ℤ c.args.line.now.row =
    omega (arith, signed, near, row) in
    notes_none _ c.args.line.now _ _ (λ k l a met. c.if-e-line.true (ap (of_z w32) (a.level ∙ (λ i. sym times i +ℤ pos 64))))

pub returns : goal.returns
returns c = λ s is.
    let line = c.args.line.now in
    let x = c.args.e.x in
    let y = c.args.e.y in
    let same : to_z w32 (of_z w32 x) ≡ x = omega (arith, signed_linear, c.args.e.near_x) in
    let high : to_z w32 (of_z w32 y) ≡ y = omega (arith, signed_linear, c.args.e.near_y) in
    let row : to_z w32 (of_z w32 (to_z w32 (of_z w32 (pos 128 *ℤ to_z w32 (of_z w32 line.row))) +ℤ pos 64))
    ≡ pos 128 *ℤ line.row +ℤ pos 64 = omega (arith, signed, line.row_near) in
    let col = c.first_from.result in
    let kept : to_z w32 (of_z w32 col) ≡ col = let near = c.first_from.ensures.size in omega (arith, signed_linear, near) in
    let strip = c.strip.result in
    let at = segment_ended line.frame x line.row col strip.base strip.stop c.columns_before.result c.strip.ensures.base
    c.strip.ensures.stop (λ j l. let b = c.first_from.ensures.before j l in omega (arith, signed_linear, b, same))
    (λ j l. let b = c.first_from.ensures.from j l in omega (arith, signed_linear, b, same))
    (subst (λ (z : ℤ). IsSplit (λ k. (strip.base +ℤ pos k) <ℤ z) (λ k. z ≤ℤ (strip.base +ℤ pos k)) strip.stop
    c.columns_before.result) kept c.columns_before.ensures) in
    let level = sym high ∙ ap (to_z w32) c.if-e-line.false ∙ row in
    let set = c.set_cut.ensures s (λ k l e. end_met s line.frame line.row k x y is level
    (at.0 k l e).0 (at.0 k l e).1) in
    record { noted = λ k l a. set.noted k l (at.1 k l a.after a.before); gained = set.gained }
