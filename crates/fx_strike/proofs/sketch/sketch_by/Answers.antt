use Rattle.std.proofs.Common.{◌≡◌, ◌∙◌, refl, ap, arith, of_z, sym, to_z}
use Rattle.std.specs.Int.{w32}
use Rattle.std.proofs.lemmas.Int.{ints}
use Rattle.fx_fixed.specs.Chain.{map_fault}
use Rattle.fx_strike.specs.Faults.{of_raster}
use Rattle.fx_strike.specs.Strike.{glyph_sketch_of}
use Rattle.fx_strike.proofs.Exits.{came}
use Rattle.fx_strike.proofs.Sketching.{fails_on, font_fails, raster_fails}
use Rattle.fx_strike.proofs.sketch.sketch_by.Goals as goal

pub returns-then-has-clause-sketch : goal.returns-then-has-clause-sketch
unfolding glyph_sketch_of
returns-then-has-clause-sketch c = rw (sym c.has.ensures ∙ c.if-has.true) refl

pub returns-in_err-made-clause-sketch : goal.returns-in_err-made-clause-sketch
unfolding glyph_sketch_of
returns-in_err-made-clause-sketch c =
    rw (came c.from_residual.result c.from_residual.ensures.1, sym c.has.ensures ∙ c.if-has.false)
    (fails_on _ _ _ (λ e k. rw k) (c.in_err-made.ensures).outline)

pub returns-in-Err-clause-sketch : goal.returns-in-Err-clause-sketch
unfolding glyph_sketch_of
returns-in-Err-clause-sketch c =
    rw (c.of_raster.ensures, sym c.has.ensures ∙ c.if-has.false)
    (fails_on _ _ _ (λ e k. rw ((c.in_ok-made.ensures).outline, k))
    (rw c.rule_for-rule.ensures at (raster_fails c.args.glyph c.in-Err.fault _
    (ap (map_fault (of_raster c.args.glyph)) (sym c.in-Err.ensures)))))

pub returns-in_err-metrics-clause-sketch : goal.returns-in_err-metrics-clause-sketch
unfolding glyph_sketch_of
returns-in_err-metrics-clause-sketch c =
    let shape = ap (map_fault (of_raster c.args.glyph)) (rw c.rule_for-rule.ensures at (sym c.in-Ok.ensures)) in
    let k = sym (c.in_err-metrics.ensures).value in
    rw (came c.from_residual-in_err-metrics.result c.from_residual-in_err-metrics.ensures.1, sym c.has.ensures ∙ c.if-has.false)
    (font_fails _ _ (rw ((c.in_ok-made.ensures).outline, shape, k)))

pub returns-clause-sketch : goal.returns-clause-sketch
unfolding glyph_sketch_of
returns-clause-sketch c =
    let cast : to_z w32 (of_z w32 c.thousandths.result) ≡ c.thousandths.result = omega (arith, ints) in
    let shape = ap (map_fault (of_raster c.args.glyph)) (rw c.rule_for-rule.ensures at (sym c.in-Ok.ensures)) in
    let k = sym (c.in_ok-metrics.ensures).value in
    let free = sym c.has.ensures ∙ c.if-has.false in
    rw (free, (c.in_ok-made.ensures).outline, shape, k, cast, c.thousandths.ensures, c.head-em.ensures)
