use Rattle.std.proofs.Common.{◌+◌, arith}
use Rattle.std.proofs.lemmas.Result.{err_from_is_err_and}
use Rattle.fx_fixed.specs.Texts.{length_of}
use Rattle.fx_fixed.proofs.Texts.{adds_ended, adds_out, adds_short}
use Rattle.fx_cli.specs.Faces.{longest_lines}
use Rattle.fx_cli.proofs.faces.add_lines.Goals as goal

pub returns-clause-text : goal.returns-clause-text
returns-clause-text g c = adds_ended c.in_ok-add_faces.ensures.text c.end.ensures.adds

pub returns-clause-short : goal.returns-clause-short
returns-clause-short g c =
    adds_short (length_of c.args.text.now + longest_lines) (adds_ended c.in_ok-add_faces.ensures.text c.end.ensures.adds)
    (omega (arith, c.add_faces.ensures.short))

pub returns-in_err-add_faces-clause-short : goal.returns-in_err-add_faces-clause-short
returns-in_err-add_faces-clause-short g c =
    let p = err_from_is_err_and c.from_residual.result c.from_residual.ensures.1 in
    adds_short (length_of c.args.text.now + longest_lines) (adds_out c.in_err-add_faces.ensures.text p.1 p.2)
    (omega (arith, c.add_faces.ensures.short))
