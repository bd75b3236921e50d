use Rattle.std.proofs.Common.{arith}
use Rattle.std.proofs.lemmas.Result.{err_from_is_err_and}
use Rattle.fx_fixed.proofs.Texts.{adds_nothing, adds_out, adds_stopped, adds_text, adds_then}
use Rattle.fx_cli.specs.Faces.{face_lines}
use Rattle.fx_cli.proofs.FaceLines.{lines_more, lines_parted, lines_short}
use Rattle.fx_cli.proofs.faces.add_faces.Goals as goal

pub faces-init : goal.faces-init
unfolding face_lines
faces-init g c = adds_nothing

pub faces-preserved : goal.faces-preserved
faces-preserved g c =
    adds_text (lines_more c.args.bytes.now c.faces.face) (adds_then c.faces.invariant c.in_ok-add_face.ensures)

pub returns-in_err-add_face : goal.returns-in_err-add_face
returns-in_err-add_face g c =
    let p = err_from_is_err_and c.from_residual.result c.from_residual.ensures.1 in
    let parted = lines_parted c.args.bytes.now c.faces.face c.args.count (omega arith) in record {
      text = adds_out (adds_text parted.1 (adds_then c.faces.invariant (adds_stopped parted.0 c.in_err-add_face.ensures))) p.1 p.2;
      short = lines_short c.args.bytes.now c.args.count (omega arith);
    }

pub returns-clause-short : goal.returns-clause-short
returns-clause-short g c = lines_short c.args.bytes.now c.args.count (omega arith)
