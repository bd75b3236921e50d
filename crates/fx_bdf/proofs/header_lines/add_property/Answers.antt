use Rattle.std.proofs.Common.{◌∷◌, [], refl}
use Rattle.std.proofs.lemmas.Result.{err_from_is_err_and}
use Rattle.fx_fixed.proofs.Texts.{adds_then, adds_stopped, adds_text, adds_out}
use Rattle.fx_bdf.proofs.Parts.{string_is}
use Rattle.fx_bdf.proofs.header_lines.add_property.Goals as goal

pub returns-in_err-add-in-Text : goal.returns-in_err-add-in-Text
returns-in_err-add-in-Text g c =
    let p = err_from_is_err_and c.from_residual.result c.from_residual.ensures.1 in
    rw c.in-Text.is (adds_out (adds_text (string_is _ c.in-Text.string.now c.as_bytes-name.ensures.value refl)
    (adds_stopped _ c.in_err-add-in-Text.ensures)) p.1 p.2)

pub returns-in_err-add_doubled-in-Text : goal.returns-in_err-add_doubled-in-Text
returns-in_err-add_doubled-in-Text g c =
    let p = err_from_is_err_and c.from_residual-in_err-add_doubled-in-Text.result
    c.from_residual-in_err-add_doubled-in-Text.ensures.1 in
    rw c.in-Text.is (adds_out (adds_text (string_is _ c.in-Text.string.now c.as_bytes-name.ensures.value c.as_bytes.ensures.value)
    (adds_then c.in_ok-add-in-Text.ensures (adds_stopped (34 ∷ 10 ∷ []) c.in_err-add_doubled-in-Text.ensures))) p.1 p.2)

pub returns-in_ok-add_doubled-in-Text : goal.returns-in_ok-add_doubled-in-Text
returns-in_ok-add_doubled-in-Text g c =
    rw c.in-Text.is (adds_text (string_is _ c.in-Text.string.now c.as_bytes-name.ensures.value c.as_bytes.ensures.value)
    (adds_then c.in_ok-add-in-Text.ensures (adds_then c.in_ok-add_doubled-in-Text.ensures c.add-in-Text-2.ensures)))
