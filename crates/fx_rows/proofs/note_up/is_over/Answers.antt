use Rattle.std.proofs.Common.{inl, inr, arith}
use Rattle.fx_fixed.proofs.Linear.{signed_linear}
use Rattle.fx_rows.proofs.Upward.{height_kept}
use Rattle.fx_rows.proofs.note_up.is_over.Goals as goal

pub returns-then-piece-y-clause-below : goal.returns-then-piece-y-clause-below
returns-then-piece-y-clause-below c = λ e. let y = height_kept c.args.row c.requires in inl (omega (arith, signed_linear, y))

pub returns-then-piece-y-2-clause-below : goal.returns-then-piece-y-2-clause-below
returns-then-piece-y-2-clause-below c = λ e. let y = height_kept c.args.row c.requires in inr (omega (arith, signed_linear, y))

pub returns-clause-over : goal.returns-clause-over
returns-clause-over c = grind (arith, signed_linear, c.requires, height_kept)
