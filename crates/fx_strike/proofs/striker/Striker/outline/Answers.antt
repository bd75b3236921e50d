use Rattle.std.proofs.Common.{sym, ◌∙◌, refl, subst}
use Rattle.fx_fixed.specs.Chain.{GivesUnless, map_fault}
use Rattle.fx_hint.specs.Outlines.{view_of_glyph_outline}
use Rattle.fx_strike.specs.Faults.{Fails, of_hint}
use Rattle.fx_strike.specs.Numbered.{outlined_with}
use Rattle.fx_strike.specs.Strike.{Setting, outline_in}
use Rattle.fx_strike.proofs.striker.Striker.outline.Goals as goal

pub returns-then-branch-clause-outline : goal.returns-then-branch-clause-outline
unfolding outlined_with
returns-then-branch-clause-outline g c = rw (sym (c.in_ok-is_glyph_over.ensures).over ∙ c.if-branch.true) refl

pub returns-clause-outline : goal.returns-clause-outline
unfolding outlined_with
returns-clause-outline g c =
    let P : Setting → Type 0 =
    λ s. GivesUnless Fails view_of_glyph_outline c.outline_by.result (map_fault of_hint (outline_in s c.args.glyph)) in
    rw (sym (c.in_ok-is_glyph_over.ensures).over ∙ c.if-branch.false)
    (subst P (c.self.view_is ∙ (c.in_ok-is_glyph_over.ensures).kept) c.outline_by.ensures.outline)
