use Rattle.std.proofs.Common.{inl, inr, sym, subst, ℤ, pos, ◌+ℤ◌, ◌*ℤ◌, arith}
use Rattle.fx_winding.specs.Winding.{span_of}
use Rattle.fx_rows.specs.inner.Heights.{height_of}
use Rattle.fx_rows.specs.inner.Points.{IsInner}
use Rattle.fx_rows.specs.inner.Upward.{IsPassing}
use Rattle.fx_rows.proofs.Upward.{hanging, last_row, one_each, goes_to, row_own}
use Rattle.fx_rows.proofs.note_up.columns_above.Goals as goal

pub returns-then-ends_in-clause-to : goal.returns-then-ends_in-clause-to
returns-then-ends_in-clause-to c =
    let p = c.args.placed in
    goes_to _ _ _ _ (inr (
      hanging (span_of c.args.piece.now) (p.frame.bottom +ℤ pos p.inner.end) c.requires.plain
          (c.ends_in.ensures.under c.if-ends_in.true),
      c.head_columns.ensures,
    ))

-- no row of the band is above those between the ends
pub columns_passed-requires-clause-inner : goal.columns_passed-requires-clause-inner
columns_passed-requires-clause-inner c =
    let s = span_of c.args.piece.now in
    let p = c.args.placed in
    let over = c.ends_in.ensures.above c.if-ends_in.false in
    let last = last_row s p.frame p.rows.end p.inner.end (omega (arith, p.end)) over
    (c.requires.placed.between.over p.inner.end (omega arith)) in
    subst (λ (z : ℤ). IsInner s.a.y s.c.y (pos 128 *ℤ z +ℤ pos 64))
    (sym (row_own c.row_above.ensures.value c.row_above.ensures.near))
    (one_each s (height_of p.frame p.inner.end) (c.requires.under last) over)

pub returns-clause-to : goal.returns-clause-to
returns-clause-to c = goes_to _ _ _ _
    (inl (subst (λ (z : ℤ). IsPassing (span_of c.args.piece.now) c.args.placed.frame z c.columns_passed.result)
    (row_own c.row_above.ensures.value c.row_above.ensures.near) c.columns_passed.ensures.passing))
