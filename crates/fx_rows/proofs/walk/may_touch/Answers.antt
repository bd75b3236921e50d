use Rattle.std.proofs.Common.{◌≡◌, ◌∙◌, neg_ℤ, arith, to_z, of_z}
use Rattle.fx_fixed.proofs.Linear.{signed_linear}
use Rattle.fx_winding.specs.Winding.{centre}
use Rattle.fx_rows.proofs.Touching.{gaps_apart, gap_of_areas, touched, from_zero}
use Rattle.fx_rows.proofs.walk.may_touch.Goals as goal
use mir.Syntax.{w128}

pub returns : goal.returns
returns c = λ s col row areas none col' row' zero.
    let h = gaps_apart s col row col' row' in
    let copy : to_z w128 (of_z w128 c.curve_gap.result) ≡ c.curve_gap.result =
    omega (arith, signed_linear, c.curve_gap.ensures.size) in
    touched (to_z w128 (of_z w128 c.curve_gap.result)) (neg_ℤ h.times)
    (copy ∙ c.curve_gap.ensures.value ∙ gap_of_areas s (centre col row) c.args.areas areas ∙
    from_zero _ _ h.times h.apart zero) none
