use Rattle.std.proofs.Common.{ap, Err}
use Rattle.std.proofs.lemmas.Result.{err_from_is_err_and}
use Rattle.mkstrike_c.proofs.Showing.{made_by_id, refused_by_id, unset_by_id}
use Rattle.mkstrike_c.proofs.glyph.found_by_id.Goals as goal

pub returns-in_err-striker-clause-refused : goal.returns-in_err-striker-clause-refused
returns-in_err-striker-clause-refused c =
    let p = err_from_is_err_and c.from_residual.result c.from_residual.ensures.1 in
    unset_by_id c.args.font.now c.args.ppem c.args.glyph c.args.mode c.from_residual.result p.0 c.in_err-striker.field-0.0 p.1 p.2
    c.in_err-striker.ensures.cause (λ m. c.in_err-striker.ensures.late (ap Err m))

pub returns-in_err-made-clause-refused : goal.returns-in_err-made-clause-refused
returns-in_err-made-clause-refused c =
    let p = err_from_is_err_and c.from_residual-in_err-made.result c.from_residual-in_err-made.ensures.1 in
    refused_by_id c.args.font.now c.args.ppem c.args.glyph c.id_of-id.result c.args.mode c.in_ok-striker.striker
    c.from_residual-in_err-made.result p.0 c.in_err-made.field-0.0 p.1 p.2 c.in_ok-striker.ensures.setting c.id_of-id.ensures
    c.in_err-made.ensures.cause

pub returns-clause-found : goal.returns-clause-found
returns-clause-found c =
    made_by_id c.args.font.now c.args.ppem c.args.glyph c.id_of-id.result c.args.mode c.in_ok-striker.striker c.in_ok-made.made
    c.in_ok-striker.ensures.setting c.id_of-id.ensures c.in_ok-made.ensures.glyph
