use Rattle.std.proofs.Common.{subst, ℤ, pos, ◌+ℤ◌, ◌*ℤ◌, arith}
use Rattle.fx_winding.specs.Winding.{span_of}
use Rattle.fx_rows.specs.inner.Heights.{IsAtLeastEnds, IsOneOver}
use Rattle.fx_rows.proofs.Upward.{row_own}
use Rattle.fx_rows.proofs.note_up.ends_in.Goals as goal

pub returns-then-placed-clause-under : goal.returns-then-placed-clause-under
returns-then-placed-clause-under c = λ t. c.requires.between.over c.args.placed.inner.end (omega arith) (omega arith)

pub returns-clause-under : goal.returns-clause-under
returns-clause-under c = λ t. subst (λ (z : ℤ). IsAtLeastEnds (span_of c.args.piece.now) (pos 128 *ℤ z +ℤ pos 64))
    (row_own c.row_above.ensures.value c.row_above.ensures.near) (c.is_under.ensures.under t)

pub returns-clause-above : goal.returns-clause-above
returns-clause-above c = λ e. subst (λ (z : ℤ). IsOneOver (span_of c.args.piece.now) (pos 128 *ℤ z +ℤ pos 64))
    (row_own c.row_above.ensures.value c.row_above.ensures.near) (c.is_under.ensures.above e)
