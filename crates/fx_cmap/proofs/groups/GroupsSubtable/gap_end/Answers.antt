use Rattle.std.proofs.Common.{◌<◌, ◌≤◌, sym, ap, ◌∙◌, arith}
use Rattle.fx_cmap.specs.Groups.{glyph_by_group}
use Rattle.fx_cmap.specs.declared.group.Group.{Group}
use Rattle.fx_cmap.proofs.Searching.{found_on, none_below_group, none_on}
use Rattle.fx_cmap.proofs.groups.GroupsSubtable.gap_end.Goals as goal

pub returns-in-Some : goal.returns-in-Some
returns-in-Some c x above below =
    let g = c.in-Some.group in
    let low : x < g.start_char_code = omega (arith, c.min.ensures, below) in
    let high : x ≤ g.end_char_code = omega (arith, c.min.ensures, below) in
    ap (glyph_by_group x)
    (found_on (λ (r : Group). r.end_char_code) c.args.self.now g c.args.code x (sym c.find.ensures ∙ c.in-Some.is) above high)
    ∙ none_below_group g x low

pub returns-in-None : goal.returns-in-None
returns-in-None c x above below =
    ap (glyph_by_group x)
    (none_on (λ (r : Group). r.end_char_code) c.args.self.now c.args.code x (sym c.find.ensures ∙ c.in-None.is) above)
