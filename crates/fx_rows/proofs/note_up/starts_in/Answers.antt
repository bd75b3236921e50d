use Rattle.std.proofs.Common.{subst, ℤ, pos, ◌+ℤ◌, ◌*ℤ◌, arith}
use Rattle.fx_fixed.proofs.Linear.{signed}
use Rattle.fx_winding.specs.Winding.{span_of}
use Rattle.fx_rows.specs.inner.Heights.{IsAtMostEnds, IsOneUnder}
use Rattle.fx_rows.proofs.Upward.{row_own}
use Rattle.fx_rows.proofs.note_up.starts_in.Goals as goal

pub returns-then-placed-clause-over : goal.returns-then-placed-clause-over
returns-then-placed-clause-over c = λ t.
    let h = c.requires.between.under c.args.placed.rows.first (omega arith) (omega arith) in
    (omega (arith, signed, h.0), omega (arith, signed, h.1))

pub returns-clause-over : goal.returns-clause-over
returns-clause-over c = λ t. subst (λ (z : ℤ). IsAtMostEnds (span_of c.args.piece.now) (pos 128 *ℤ z +ℤ pos 64))
    (row_own c.row_below.ensures.value c.row_below.ensures.near) (c.is_over.ensures.over t)

pub returns-clause-below : goal.returns-clause-below
returns-clause-below c = λ e. subst (λ (z : ℤ). IsOneUnder (span_of c.args.piece.now) (pos 128 *ℤ z +ℤ pos 64))
    (row_own c.row_below.ensures.value c.row_below.ensures.near) (c.is_over.ensures.below e)
