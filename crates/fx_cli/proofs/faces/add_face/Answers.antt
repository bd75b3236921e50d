use Rattle.std.proofs.Common.{◌∙◌, [], ◌∷◌, ◌++◌, List, ℕ, ap, append_assoc}
use Rattle.std.specs.Fmt.{decimal}
use Rattle.std.proofs.lemmas.Result.{err_from_is_err_and}
use Rattle.fx_sfnt.specs.Collections.{face_in}
use Rattle.fx_sfnt.specs.Tables.{font_of}
use Rattle.fx_fixed.proofs.Texts.{adds_out, adds_stopped, adds_text, adds_then}
use Rattle.fx_cli.specs.Faces.{face_line, face_said}
use Rattle.fx_cli.proofs.faces.add_face.Goals as goal

pub returns-in_err-add : goal.returns-in_err-add
unfolding face_line
returns-in_err-add g c =
    let p = err_from_is_err_and c.from_residual.result c.from_residual.ensures.1 in
    let said : List ℕ = face_said (font_of (face_in c.args.bytes.now c.args.face)) ++ 10 ∷ [] in
    let digits = c.text.ensures.value ∙ c.unsigned.ensures ∙ ap decimal c.from.ensures in
    let number = adds_text (ap (λ (t : List ℕ). t ++ 9 ∷ []) digits)
    c.in_err-add.ensures in
    adds_out (adds_text (append_assoc (decimal c.args.face) (9 ∷ []) said) (adds_stopped said number)) p.1 p.2

pub returns-in_err-add_said : goal.returns-in_err-add_said
unfolding face_line
returns-in_err-add_said g c =
    let p = err_from_is_err_and c.from_residual-in_err-add_said.result c.from_residual-in_err-add_said.ensures.1 in
    let said : List ℕ = face_said (font_of (face_in c.args.bytes.now c.args.face)) ++ 10 ∷ [] in
    let digits = c.text.ensures.value ∙ c.unsigned.ensures ∙ ap decimal c.from.ensures in
    let number = adds_text (ap (λ (t : List ℕ). t ++ 9 ∷ []) digits)
    c.in_ok-add.ensures in
    adds_out (adds_text (append_assoc (decimal c.args.face) (9 ∷ []) said)
    (adds_then number (adds_stopped (10 ∷ []) c.in_err-add_said.ensures))) p.1 p.2

pub returns : goal.returns
unfolding face_line
returns g c =
    let said : List ℕ = face_said (font_of (face_in c.args.bytes.now c.args.face)) ++ 10 ∷ [] in
    let digits = c.text.ensures.value ∙ c.unsigned.ensures ∙ ap decimal c.from.ensures in
    let number = adds_text (ap (λ (t : List ℕ). t ++ 9 ∷ []) digits)
    c.in_ok-add.ensures in
    adds_text (append_assoc (decimal c.args.face) (9 ∷ []) said)
    (adds_then number (adds_then c.in_ok-add_said.ensures c.add-2.ensures))
