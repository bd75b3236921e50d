use Rattle.std.proofs.Common.{lit<, ◌∙◌, ap}
use Rattle.fx_arguments.proofs.Given.{property_cut, with_value}
use Rattle.fx_arguments.proofs.properties.property_of.Goals as goal

pub returns-in-Some : goal.returns-in-Some
returns-in-Some c =
    let cut = c.in-Some.ensures.byte (lit< tt) (λ w o h. h) in
    ap (with_value c.in-Some.name.now) c.value_of.ensures
    ∙ property_cut c.args.text.now c.in-Some.name.now c.in-Some.value.now cut.0 cut.1 cut.2
