use Rattle.std.proofs.Common.{◌≡◌, ◌∙◌, ◌↔◌, IsTrue, ℤ, pos, ◌*ℤ◌, ◌-ℤ◌, ◌≤ℤ◌, to_z, of_z, w64, arith}
use Rattle.std.proofs.lemmas.Int.{ints, to_z-of_z}
use Rattle.fx_fixed.proofs.Linear.{signed, signed_linear}
use Rattle.fx_winding.specs.Area.{gap_of}
use Rattle.fx_rows.proofs.Touching.{gap_products}
use Rattle.fx_rows.proofs.walk.is_reached.Goals as goal
use lib.Signed.{le_z}
use mir.Syntax.{w128}

reached_by : (p q g : ℤ) → g ≡ q -ℤ p → IsTrue (le_z p q) ↔ (pos 0 ≤ℤ g)
reached_by p q g e = (λ t. grind (arith, ints, e, t), λ h. grind (arith, ints, e, h))

pub returns : goal.returns
returns c =
    let a = c.args.areas in
    let u : to_z w64 (of_z w64 (pos 4 *ℤ to_z w64 (of_z w64 a.u))) ≡ pos 4 *ℤ a.u = omega (arith, signed, a.near_u) in
    let v : to_z w64 (of_z w64 a.v) ≡ a.v = omega (arith, signed_linear, a.near_v) in
    let w : to_z w64 (of_z w64 a.w) ≡ a.w = omega (arith, signed_linear, a.near_w) in
    let x = to_z-of_z w128 _ (record { sfits = c.wide_product.type_inv }) ∙ c.wide_product.ensures ∙ (λ i. u i *ℤ w i) in
    let y = to_z-of_z w128 _ (record { sfits = c.wide_product-2.type_inv }) ∙ c.wide_product-2.ensures ∙ (λ i. v i *ℤ v i) in
    rw (x, y) (reached_by (a.v *ℤ a.v) ((pos 4 *ℤ a.u) *ℤ a.w) (gap_of a.u a.v a.w) (gap_products a.u a.v a.w))
