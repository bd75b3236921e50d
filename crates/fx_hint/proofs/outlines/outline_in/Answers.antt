use Rattle.std.proofs.Common.{◌∙◌, ap, sym, Ok}
use Rattle.std.proofs.lemmas.Result.{err_from_is_err_and}
use Rattle.fx_hint.specs.Runs.{runs_of}
use Rattle.fx_hint.proofs.Forgetting.{root_walked, outline_walked}
use Rattle.fx_hint.proofs.RunLaws.{walk_leads, first_same}
use Rattle.fx_hint.proofs.Sound.{font_valid, root_sound}
use Rattle.fx_hint.proofs.outlines.outline_in.Goals as goal

pub moved_outline-requires : goal.moved_outline-requires
moved_outline-requires g c =
    root_sound _ _ _ _ _ c.law_keeps_shape.ensures (font_valid _)
    (root_walked g.H.Hinter.Leads _ _ _ _ _ _ _ _ _ (rw c.none.ensures at c.in_ok-assembled.ensures.walks))

pub returns-in_err-assembled-clause-leads : goal.returns-in_err-assembled-clause-leads
unfolding runs_of
returns-in_err-assembled-clause-leads g c =
    let p = err_from_is_err_and c.from_residual.result c.from_residual.ensures.1 in
    let w = rw (c.none.ensures, c.of-scale.ensures) at c.in_err-assembled.ensures.walks in
    rw (p.1, p.2) (walk_leads g.H.Hinter.Leads _ _ _ _ _ _ w)

pub returns-in_err-assembled-clause-value : goal.returns-in_err-assembled-clause-value
returns-in_err-assembled-clause-value g c =
    let p = err_from_is_err_and c.from_residual.result c.from_residual.ensures.1 in
    let w = rw (c.none.ensures, c.of-scale.ensures) at c.in_err-assembled.ensures.walks in
    rw (p.1, p.2) (outline_walked g.H.Hinter.Leads _ _ _ _ _ _ _ _ _ w)

pub returns-in_err-outline-clause-leads : goal.returns-in_err-outline-clause-leads
unfolding runs_of
returns-in_err-outline-clause-leads g c =
    let p = err_from_is_err_and c.from_residual-in_err-outline.result c.from_residual-in_err-outline.ensures.1 in
    let w = walk_leads g.H.Hinter.Leads _ _ _ _ _ _ (rw (c.none.ensures, c.of-scale.ensures) at c.in_ok-assembled.ensures.walks) in
    rw (p.1, p.2) (_, first_same _, w)

pub returns-clause-leads : goal.returns-clause-leads
unfolding runs_of
returns-clause-leads g c =
    walk_leads g.H.Hinter.Leads _ _ _ _ _ _ (rw (c.none.ensures, c.of-scale.ensures) at c.in_ok-assembled.ensures.walks)

pub returns-clause-value : goal.returns-clause-value
returns-clause-value g c =
    outline_walked g.H.Hinter.Leads _ _ _ _ _ _ _ _ _ (rw (c.none.ensures, c.of-scale.ensures) at c.in_ok-assembled.ensures.walks)
    ∙ ap Ok (sym c.in_ok-outline.ensures)
