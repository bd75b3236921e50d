use Rattle.std.proofs.Common.{◌∙◌, arith, sym}
use Rattle.std.proofs.lemmas.List.{take_all}
use Rattle.std.proofs.lemmas.List.Folds.{flat_map-map}
use Rattle.std.proofs.lemmas.Result.{err_from_is_err_and}
use Rattle.fx_fixed.proofs.Writing.{parts, parts_more}
use Rattle.fx_fixed.proofs.Texts.{adds_then, adds_stopped, adds_text, adds_out}
use Rattle.fx_bdf.specs.Properties.{property_text, seen_property}
use Rattle.fx_bdf.specs.declared.property.Property.{Property}
use Rattle.fx_bdf.proofs.header_lines.add_properties.Goals as goal

pub returns-in_err-add_property : goal.returns-in_err-add_property
returns-in_err-add_property g c =
    let p = err_from_is_err_and c.from_residual.result c.from_residual.ensures.1 in
    let all = flat_map-map property_text seen_property c.args.properties.now in
    adds_out (adds_text (sym (all ∙ parts (λ (p : Property). property_text (seen_property p)) _ _ _ c.properties-test.true))
    (adds_then c.properties.invariant (adds_stopped _ c.in_err-add_property.ensures))) p.1 p.2

pub properties-preserved : goal.properties-preserved
properties-preserved g c =
    adds_text (parts_more (λ (p : Property). property_text (seen_property p)) _ _ _ c.properties-test.true)
    (adds_then c.properties.invariant c.in_ok-add_property.ensures)

pub returns : goal.returns
returns g c = grind (arith, c.properties-test.false, c.properties.invariant, flat_map-map, adds_text, take_all)
