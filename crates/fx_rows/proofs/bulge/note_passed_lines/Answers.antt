use Rattle.std.proofs.Common.{◌≡◌, ◌∙◌, ap, subst, pos, ◌+◌, ◌+ℤ◌, ◌-ℤ◌, arith, w64, to_z, of_z}
use Rattle.fx_fixed.proofs.Linear.{signed_linear}
use Rattle.fx_winding.specs.Winding.{place_of, centre}
use Rattle.fx_winding.specs.declared.frame.Frame.{Frame}
use Rattle.fx_rows.specs.inner.Sides.{side}
use Rattle.fx_rows.specs.inner.Walks.{IsArcAt}
use Rattle.fx_rows.proofs.Cutting.{slanted}
use Rattle.fx_rows.proofs.bulge.note_passed_lines.Goals as goal

pub arc_in-requires : goal.arc_in-requires
arc_in-requires c = grind (arith, signed_linear, c.requires.inner, slanted)

pub note_cuts-requires-clause-at : goal.note_cuts-requires-clause-at
note_cuts-requires-clause-at c =
    let at = c.strip-strip.ensures in
    let of = c.row.ensures in
    let row = at.row ∙ of.row in
    let base = at.base ∙ ap (λ (f : Frame). f.left -ℤ pos 1) of.frame in
    let stop = at.stop ∙ ap (λ (f : Frame). f.width + 2) of.frame in
    subst (λ z. z) (λ i. IsArcAt c.in-Some.cuts c.args.bounded.now.piece (centre (base i +ℤ pos 0) (row i))
    (base i +ℤ pos (stop i))) c.in-Some.ensures.arc

pub note_cuts-requires-2-clause-at : goal.note_cuts-requires-2-clause-at
note_cuts-requires-2-clause-at c =
    let p = c.args.bounded.now.piece in
    let at = c.strip-strip.ensures in
    let of = c.row.ensures in
    let row = at.row ∙ of.row in
    let base = at.base ∙ ap (λ (f : Frame). f.left -ℤ pos 1) of.frame in
    let size = c.base_side-side.ensures.size in
    let word : to_z w64 (of_z w64 c.base_side-side.result) ≡ c.base_side-side.result = omega (arith, signed_linear, size) in (
      c.in_default.ensures.arc,
      word ∙ c.base_side-side.ensures.value ∙ ap (side (place_of p.a) (place_of p.c)) (λ i. centre (base i +ℤ pos 0) (row i)),
    )
