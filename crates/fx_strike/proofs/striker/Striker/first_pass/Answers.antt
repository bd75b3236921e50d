use Rattle.std.proofs.Common.{arith, ◌∙◌}
use Rattle.fx_strike.proofs.Exits.{came}
use Rattle.fx_strike.proofs.Making.{unseen, surveyed}
use Rattle.fx_strike.proofs.Mapping.{mapped_within}
use Rattle.fx_strike.proofs.Telling.{told_all, told_none, told_on, told_strike}
use Rattle.fx_strike.proofs.striker.Striker.first_pass.Goals as goal

pub see-requires-clause-mapped : goal.see-requires-clause-mapped
see-requires-clause-mapped g c =
    mapped_within _ c.requires.chars (c.deref.ensures.value ∙ (c.in_ok-characters.ensures).characters.mapped)

pub returns-in_err-characters-clause-heard : goal.returns-in_err-characters-clause-heard
returns-in_err-characters-clause-heard g c title =
    grind (arith, c.from_residual.ensures.1, c.in_err-characters.ensures, came, told_none)

pub returns-in_err-seen-clause-passes : goal.returns-in_err-seen-clause-passes
returns-in_err-seen-clause-passes g c title =
    rw (came c.from_residual-in_err-seen.result c.from_residual-in_err-seen.ensures.1)
    (unseen _ title c.args.chars.now _ _ _ (c.deref.ensures.value ∙ (c.in_ok-characters.ensures).characters.mapped)
    (c.in_err-seen.ensures).seen)

pub returns-in_err-seen-clause-heard : goal.returns-in_err-seen-clause-heard
returns-in_err-seen-clause-heard g c title =
    rw (came c.from_residual-in_err-seen.result c.from_residual-in_err-seen.ensures.1)
    (told_strike _ title c.args.chars.now _ (c.deref.ensures.value ∙ (c.in_ok-characters.ensures).characters.mapped)
    (told_on (c.in_err-seen.ensures).heard))

pub returns-clause-passes : goal.returns-clause-passes
returns-clause-passes g c title =
    let are = (c.in_ok-characters.ensures).characters in
    record {
      mapped_are = are.mapped;
      within = mapped_within _ c.requires.chars are.mapped;
      lines = rw c.deref.ensures.value at (c.in_ok-seen.ensures).lines;
      surveyed = rw (c.survey_from-survey.ensures, (c.in_ok-seen.ensures).kept) (surveyed _ title c.args.chars.now
          c.args.refused c.in_ok-characters.characters c.in_ok-seen.seen are
          (rw c.deref.ensures.value at (c.in_ok-seen.ensures).seen));
    }

pub returns-clause-heard : goal.returns-clause-heard
returns-clause-heard g c title =
    told_strike _ title c.args.chars.now _ (c.deref.ensures.value ∙ (c.in_ok-characters.ensures).characters.mapped)
    (told_all _ (c.in_ok-seen.ensures).heard)
