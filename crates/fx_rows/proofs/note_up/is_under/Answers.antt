use Rattle.std.proofs.Common.{inl, inr, arith}
use Rattle.fx_fixed.proofs.Linear.{signed_linear}
use Rattle.fx_rows.proofs.Upward.{height_kept}
use Rattle.fx_rows.proofs.note_up.is_under.Goals as goal

pub returns-then-y-piece-clause-above : goal.returns-then-y-piece-clause-above
returns-then-y-piece-clause-above c = λ e. let y = height_kept c.args.row c.requires in inl (omega (arith, signed_linear, y))

pub returns-then-y-piece-2-clause-above : goal.returns-then-y-piece-2-clause-above
returns-then-y-piece-2-clause-above c = λ e. let y = height_kept c.args.row c.requires in inr (omega (arith, signed_linear, y))

pub returns-clause-under : goal.returns-clause-under
returns-clause-under c = grind (arith, signed_linear, c.requires, height_kept)
