use Rattle.std.proofs.Common.{◌≡◌, ◌∙◌, ◌-ℤ◌, ◌*ℤ◌, arith, w64, to_z, of_z}
use Rattle.fx_fixed.proofs.Linear.{signed_linear}
use Rattle.fx_winding.specs.Winding.{place_of, maybe_place_of, sign}
use Rattle.fx_rows.specs.inner.Sides.{place_at}
use Rattle.fx_rows.proofs.Sides.{middle}
use Rattle.fx_rows.proofs.chord.base_side.Goals as goal

pub returns-clause-value : goal.returns-clause-value
returns-clause-value c =
    let s = c.args.piece.now in
    let copy : to_z w64 (of_z w64 c.turned.result) ≡ c.turned.result = omega (arith, signed_linear, c.turned.ensures.size) in
    let rise : to_z w64 (of_z w64 c.chord_rise.result) ≡ s.c.y -ℤ s.a.y =
    omega (arith, signed_linear, c.chord_rise.ensures.value, c.chord_rise.ensures.size) in
    let v : to_z w64 (of_z w64 c.args.areas.v) ≡ c.args.areas.v = omega (arith, signed_linear, c.args.areas.near_v) in
    let along = c.requires.areas.v ∙ middle (place_of s.a) (place_of s.c) (place_at c.args.strip 0) (maybe_place_of s.b) in
    copy ∙ c.turned.ensures.value ∙ (λ i. sign (rise i) *ℤ (v ∙ along) i)
