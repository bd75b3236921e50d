use Rattle.std.proofs.Common.{inl, inr, sym, subst, ℕ, ℤ, pos, ◌+ℤ◌, ◌-ℤ◌, ◌*ℤ◌, arith}
use Rattle.fx_winding.specs.Winding.{span_of}
use Rattle.fx_rows.specs.inner.Points.{IsInner}
use Rattle.fx_rows.specs.inner.Upward.{height_below, ComesFrom, IsPassing}
use Rattle.fx_rows.proofs.Upward.{resting, level_under, first_row, one_each, comes_from, row_own}
use Rattle.fx_rows.proofs.note_up.columns_below.Goals as goal

pub returns-then-starts_in-clause-from : goal.returns-then-starts_in-clause-from
returns-then-starts_in-clause-from c =
    let s = span_of c.args.piece.now in
    let p = c.args.placed in
    let first = p.inner.first in
    let under = level_under s p.frame p.rows.first first (omega (arith, p.first))
    (c.starts_in.ensures.over c.if-starts_in.true) c.requires.placed.between.under in
    comes_from s p.frame first c.foot_columns.result c.requires.plain
    (inr (resting s ((p.frame.bottom -ℤ pos 1) +ℤ pos first) c.requires.plain under, c.foot_columns.ensures))

pub columns_passed-requires-clause-inner : goal.columns_passed-requires-clause-inner
columns_passed-requires-clause-inner c =
    let s = span_of c.args.piece.now in
    let p = c.args.placed in
    subst (λ (z : ℤ). IsInner s.a.y s.c.y (pos 128 *ℤ z +ℤ pos 64))
    (sym (row_own c.row_below.ensures.value c.row_below.ensures.near))
    (one_each s (height_below p.frame p.rows.first) (c.starts_in.ensures.below c.if-starts_in.false) c.requires.over)

pub returns-clause-from : goal.returns-clause-from
returns-clause-from c =
    let s = span_of c.args.piece.now in
    let p = c.args.placed in
    let first = first_row s p.frame p.rows.first p.inner.first (omega (arith, p.first))
    (c.starts_in.ensures.below c.if-starts_in.false) c.requires.placed.between.under in
    subst (λ (r : ℕ). ComesFrom s p.frame r c.columns_passed.result) first
    (comes_from s p.frame p.rows.first c.columns_passed.result c.requires.plain
    (inl (subst (λ (z : ℤ). IsPassing s p.frame z c.columns_passed.result)
    (row_own c.row_below.ensures.value c.row_below.ensures.near) c.columns_passed.ensures.passing)))
