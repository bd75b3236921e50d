use Rattle.std.proofs.Common.{sym}
use Rattle.fx_strike.specs.Headline.{character_with}
use Rattle.fx_strike.proofs.Exits.{came}
use Rattle.fx_strike.proofs.Making.{fails_cause}
use Rattle.fx_strike.proofs.Prepared.{due_ok, due_cause}
use Rattle.fx_strike.proofs.striker.Striker.glyph.Goals as goal

pub returns-in_err-check_chars-clause-cause : goal.returns-in_err-check_chars-clause-cause
unfolding character_with
returns-in_err-check_chars-clause-cause g c =
    rw (came c.from_residual.result c.from_residual.ensures.1)
    (fails_cause _ _ (c.in_err-check_chars.ensures).named (rw (sym (c.in_err-check_chars.ensures).due)))

pub returns-clause-glyph : goal.returns-clause-glyph
unfolding character_with
returns-clause-glyph g c =
    rw (sym (c.in_ok-check_chars.ensures).due) (due_ok _ _ c.one.result c.one.ensures.one)

pub returns-clause-cause : goal.returns-clause-cause
unfolding character_with
returns-clause-cause g c =
    rw (sym (c.in_ok-check_chars.ensures).due) (due_cause _ _ c.one.result c.one.ensures.one)
