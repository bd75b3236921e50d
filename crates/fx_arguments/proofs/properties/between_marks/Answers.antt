use Rattle.std.proofs.Common.{lit<, ◌∙◌, ap, sym, None, Some}
use Rattle.std.proofs.lemmas.Str.Pattern.{strip_prefix_char, strip_suffix_char}
use Rattle.fx_arguments.specs.Properties.{between_marks}
use Rattle.fx_arguments.proofs.Given.{mark_first, mark_found, mark_not_first}
use Rattle.fx_arguments.proofs.properties.between_marks.Goals as goal

pub returns-in-Some : goal.returns-in-Some
returns-in-Some c =
    let rest = c.in-Some.rest.now in
    let quoted = strip_prefix_char 34 c.args.value.now (Some c.in-Some.rest) c.in-Some.ensures.cases (lit< tt) in
    mark_found rest c.strip_suffix.result
    (strip_suffix_char 34 rest c.strip_suffix.result c.strip_suffix.ensures.cases (lit< tt))
    ∙ sym (ap between_marks quoted ∙ mark_first rest)

pub returns-in-None : goal.returns-in-None
returns-in-None c =
    sym (mark_not_first c.args.value.now (strip_prefix_char 34 c.args.value.now None c.in-None.ensures.cases (lit< tt)))
