use Rattle.std.proofs.Common.{inl, subst, ℤ, pos, ◌+ℤ◌, ◌*ℤ◌, arith}
use Rattle.fx_fixed.proofs.Linear.{signed}
use Rattle.fx_winding.specs.Winding.{span_of}
use Rattle.fx_rows.specs.inner.Heights.{IsAtLeastEnds, IsOneOver}
use Rattle.fx_rows.proofs.Upward.{row_own}
use Rattle.fx_rows.proofs.note_up.lies_under.Goals as goal

pub returns-then-placed-clause-above : goal.returns-then-placed-clause-above
returns-then-placed-clause-above c = λ e.
    let h = c.requires.between.under c.args.placed.rows.first (omega arith) (omega arith) in inl (omega (arith, signed, h.0))

pub returns-clause-under : goal.returns-clause-under
returns-clause-under c = λ t. subst (λ (z : ℤ). IsAtLeastEnds (span_of c.args.piece.now) (pos 128 *ℤ z +ℤ pos 64))
    (row_own c.row_below.ensures.value c.row_below.ensures.near) (c.is_under.ensures.under t)

pub returns-clause-above : goal.returns-clause-above
returns-clause-above c = λ e. subst (λ (z : ℤ). IsOneOver (span_of c.args.piece.now) (pos 128 *ℤ z +ℤ pos 64))
    (row_own c.row_below.ensures.value c.row_below.ensures.near) (c.is_under.ensures.above e)
