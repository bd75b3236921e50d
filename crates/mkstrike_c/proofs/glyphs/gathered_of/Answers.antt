use Rattle.std.proofs.Common.{ap, Err}
use Rattle.std.proofs.lemmas.Result.{err_from_is_err_and}
use Rattle.fx_strike.specs.Strike.{setting_for}
use Rattle.mkstrike_c.proofs.Gathering.{refused_unset, refused_later, gathered_from}
use Rattle.mkstrike_c.proofs.glyphs.gathered_of.Goals as goal

pub returns-in_err-striker-clause-refused : goal.returns-in_err-striker-clause-refused
returns-in_err-striker-clause-refused c =
    let p = err_from_is_err_and c.from_residual.result c.from_residual.ensures.1 in
    refused_unset c.args.font.now c.args.ppem c.args.chars.now c.args.mode c.from_residual.result p.0
    c.in_err-striker.field-0.0 p.1 p.2 c.in_err-striker.ensures.cause
    (λ m. c.in_err-striker.ensures.late (ap Err m))

pub returns-clause-gathered : goal.returns-clause-gathered
returns-clause-gathered c =
    gathered_from (setting_for c.args.font.now c.args.ppem c.args.chars.now c.args.mode) c.args.chars.now
    c.in_ok-striker.striker c.args.wanted c.gathered_with.result c.in_ok-striker.ensures.setting c.gathered_with.ensures.gathered

pub returns-clause-refused : goal.returns-clause-refused
returns-clause-refused c =
    refused_later c.args.font.now c.args.ppem c.args.chars.now c.args.mode c.in_ok-striker.striker
    c.gathered_with.result c.in_ok-striker.ensures.setting c.gathered_with.ensures.memory
