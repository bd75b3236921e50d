use Rattle.std.proofs.Common.{refl, sym}
use Rattle.fx_strike.specs.Headline.{strike_with}
use Rattle.std.proofs.KnownBytes.{Keeps-refl}
use Rattle.fx_strike.proofs.Exits.{came}
use Rattle.fx_strike.proofs.Making.{fails_cause, not_memory, fails_leaves, makes}
use Rattle.fx_strike.proofs.Prepared.{is_ok}
use Rattle.fx_strike.proofs.striker.Striker.write.Goals as goal

pub returns-in_err-check_text-clause-made : goal.returns-in_err-check_text-clause-made
unfolding strike_with
returns-in_err-check_text-clause-made g c =
    let named = (c.in_err-check_text.ensures).named in
    rw (came c.from_residual.result c.from_residual.ensures.1)
    (makes _ (λ m. not_memory _ named (cc (m)))
    (fails_leaves _ _ _ (Keeps-refl _) refl (fails_cause _ _ named (rw (sym (c.in_err-check_text.ensures).due)))))

pub returns-clause-made : goal.returns-clause-made
unfolding strike_with
returns-clause-made g c =
    let checked = (c.in_ok-check_text.ensures).due in
    makes c.write_strike.result (λ m. is_ok _ _ checked) (rw (sym checked) c.write_strike.ensures.leaves)
