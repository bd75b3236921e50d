use Rattle.std.proofs.Common.{subst, ℤ, pos, ◌+ℤ◌, ◌*ℤ◌}
use Rattle.fx_winding.specs.Winding.{span_of}
use Rattle.fx_rows.specs.inner.Heights.{IsAtMostEnds, IsOneUnder}
use Rattle.fx_rows.proofs.Upward.{row_own}
use Rattle.fx_rows.proofs.note_up.lies_over.Goals as goal

pub returns-clause-over : goal.returns-clause-over
returns-clause-over c = λ t. subst (λ (z : ℤ). IsAtMostEnds (span_of c.args.piece.now) (pos 128 *ℤ z +ℤ pos 64))
    (row_own c.row_above.ensures.value c.row_above.ensures.near) (c.is_over.ensures.over t)

pub returns-clause-below : goal.returns-clause-below
returns-clause-below c = λ e last. subst (λ (z : ℤ). IsOneUnder (span_of c.args.piece.now) (pos 128 *ℤ z +ℤ pos 64))
    (row_own c.row_above.ensures.value c.row_above.ensures.near) (c.is_over.ensures.below e)
