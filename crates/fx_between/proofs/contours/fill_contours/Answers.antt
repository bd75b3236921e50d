use Rattle.std.proofs.Common.{ℕ, ◌+◌, refl, ap, arith, ◌∙◌}
use Rattle.fx_between.specs.Contours.{contours_filled}
use Rattle.fx_between.proofs.Contouring.{next_first, contour_put, contour_empty}
use Rattle.fx_between.proofs.contours.fill_contours.Goals as goal
use Rattle.fx_between.proofs.contours.fill_contours.Goals.{then-first-past, else-first-past}

pub contours-init : goal.contours-init
unfolding contours_filled
contours-init g c = record { answer = refl; begins = refl }

pub contours-preserved : goal.contours-preserved
contours-preserved g c =
    let i = c.contours.invariant in
    let e = c.from-past.ensures in
    let named = g.R.Rule.is_named c.args.rule.now in
    let between = g.R.Rule.between c.args.rule.now in
    elim c.if-first-past.branch [
      | then-first-past w ↦ record {
        answer = w.points-is
            ∙ rw e (contour_put named between c.args.ends.now c.args.points.now c.contours.points _ c.contours.first
            c.contours.end-index 0 (omega arith) i.begins i.answer (rw e at w.fill_contour.ensures));
        begins = next_first c.args.ends.now c.contours.end-index _ (w.first-is ∙ ap (λ (n : ℕ). n + 1) e);
      }
      | else-first-past w ↦ record {
        answer = w.points-is
            ∙ contour_empty named between c.args.ends.now c.args.points.now c.contours.points c.contours.first
            c.contours.end-index 0 (omega arith) i.begins (omega (arith, w.if-first-past.false, e)) i.answer;
        begins = next_first c.args.ends.now c.contours.end-index _ (w.first-is ∙ ap (λ (n : ℕ). n + 1) e);
      }
    ]
