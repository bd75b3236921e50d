use Rattle.std.proofs.lemmas.List.{length-map}
use Rattle.std.proofs.lemmas.Result.{err_from_is_err_and}
use Rattle.fx_fixed.proofs.Texts.{adds_then, adds_stopped, adds_text}
use Rattle.fx_bdf.specs.Properties.{seen_property}
use Rattle.fx_bdf.specs.Text.{back_text, header_text}
use Rattle.fx_bdf.proofs.Headers.{back_number}
use Rattle.fx_bdf.proofs.header_lines.add_header.Goals as goal

pub returns-in_err-add_front-clause-text : goal.returns-in_err-add_front-clause-text
unfolding header_text
returns-in_err-add_front-clause-text g c =
    let p = err_from_is_err_and c.from_residual.result c.from_residual.ensures.1 in
    rw (p.1, p.2, length-map c.args.properties.now seen_property) (adds_stopped _ c.in_err-add_front.ensures.text)

pub returns-in_err-add_properties-clause-text : goal.returns-in_err-add_properties-clause-text
unfolding header_text
returns-in_err-add_properties-clause-text g c =
    let p = err_from_is_err_and c.from_residual-in_err-add_properties.result c.from_residual-in_err-add_properties.ensures.1 in
    rw (p.1, p.2, length-map c.args.properties.now seen_property)
    (adds_then c.in_ok-add_front.ensures.text (adds_stopped (back_text c.args.header.now) c.in_err-add_properties.ensures))

pub returns-clause-text : goal.returns-clause-text
unfolding header_text
returns-clause-text g c =
    rw (length-map c.args.properties.now seen_property)
    (adds_then c.in_ok-add_front.ensures.text
    (adds_then c.in_ok-add_properties.ensures (adds_text (back_number c.args.header.now c.requires.glyphs) c.add.ensures)))
