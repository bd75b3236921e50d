use Rattle.std.proofs.Common.{arith}
use Rattle.std.proofs.Common.{◌≡◌, ◌∙◌, List, ap, rules, sym, subst, FitsSigned, w32}
use Rattle.std.proofs.lemmas.Result.{IfOk-weaker}
use Rattle.fx_bdf.specs.Properties.{AreLines, PropertyView, seen_properties}
use Rattle.fx_bdf.specs.X11.{before_given, x11_properties}
use Rattle.fx_bdf.proofs.MoreProperties.{given_lines, lines_with_x11}
use Rattle.fx_bdf.proofs.title.Title.all_properties.Goals as goal

pub returns-then-self-clause-lines : goal.returns-then-self-clause-lines
returns-then-self-clause-lines c =
    let P : List PropertyView → Type 0 = λ ps. AreLines ps in
    let more : seen_properties c.deref.result.now ≡ x11_properties c.args.self.now.name.now c.args.ppem c.args.summary =
    ap seen_properties c.deref.ensures.value ∙ c.in_ok-more.ensures in
    let fits : FitsSigned w32 c.args.summary.average_width = search rules in
    IfOk-weaker c.before_given.result _ _
    (λ all e. subst P
    (sym (e ∙ ap (λ (ps : List PropertyView). before_given ps (seen_properties c.args.self.now.properties.now)) more))
    (lines_with_x11 _ _ _ _ c.requires.name c.ranges.ppem.fits fits c.requires.properties)) c.before_given.ensures

pub returns-clause-lines : goal.returns-clause-lines
returns-clause-lines c = grind (arith, c.requires.properties, c.from_slice.ensures.items, given_lines)
