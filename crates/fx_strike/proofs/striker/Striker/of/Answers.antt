use Rattle.std.proofs.Common.{sym}
use Rattle.fx_strike.specs.Strike.{setting_in}
use Rattle.fx_strike.specs.Strike.{setting_after}
use Rattle.fx_strike.proofs.Exits.{came}
use Rattle.fx_strike.proofs.Making.{fails_cause, not_memory}
use Rattle.fx_strike.proofs.Prepared.{is_ok}
use Rattle.fx_strike.proofs.Sketching.{fails_on}
use Rattle.fx_strike.proofs.striker.Striker.of.Goals as goal

pub returns-in_err-opened-clause-setting : goal.returns-in_err-opened-clause-setting
unfolding setting_after
returns-in_err-opened-clause-setting g c =
    rw (came c.from_residual.result c.from_residual.ensures.1)
    (fails_cause _ _ (rw c.in_err-opened.was at c.requires) (rw c.in_err-opened.was))

pub returns-in_err-opened-clause-late : goal.returns-in_err-opened-clause-late
returns-in_err-opened-clause-late g c =
    rw (came c.from_residual.result c.from_residual.ensures.1)
    (λ m. not_memory _ (rw c.in_err-opened.was at c.requires) (cc (m)))

pub returns-in_err-hinter-clause-setting : goal.returns-in_err-hinter-clause-setting
unfolding setting_in setting_after
returns-in_err-hinter-clause-setting g c =
    rw (came c.from_residual-in_err-hinter.result c.from_residual-in_err-hinter.ensures.1, c.in_ok-opened.was)
    (fails_on _ _ _ (λ e k. rw k) c.in_err-hinter.ensures)

pub returns-in_err-hinter-clause-late : goal.returns-in_err-hinter-clause-late
returns-in_err-hinter-clause-late g c m = is_ok _ _ (sym c.in_ok-opened.was)

pub returns-clause-setting : goal.returns-clause-setting
unfolding setting_in setting_after
returns-clause-setting g c = rw (c.in_ok-opened.was, c.in_ok-hinter.ensures, c.with.ensures, c.of-basis.ensures)
