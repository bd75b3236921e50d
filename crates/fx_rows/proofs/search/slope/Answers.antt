use Rattle.std.proofs.Common.{◌≡◌, ◌∙◌, ◌^◌, ℤ, neg_ℤ, pos, ◌+ℤ◌, ◌-ℤ◌, ◌*ℤ◌, arith, w64, to_z, of_z}
use Rattle.fx_fixed.proofs.Linear.{signed, signed_linear}
use Rattle.fx_fixed.specs.Ranges.{IsWithin}
use Rattle.fx_rows.proofs.search.slope.Goals as goal
use mir.Syntax.{w128}

-- the sum without its copies
sum_without_copies : (x y z : ℤ) → IsWithin (2 ^ 112) x → IsWithin (2 ^ 112) y → IsWithin (2 ^ 112) z
    → to_z w128 (of_z w128 (to_z w128 (of_z w128
    (pos 2 *ℤ to_z w128 (of_z w128 (to_z w128 (of_z w128 x) +ℤ to_z w128 (of_z w128 y))))) +ℤ to_z w128 (of_z w128 z)))
    ≡ pos 2 *ℤ (x +ℤ y) +ℤ z
sum_without_copies x y z hx hy hz =
    let ex : to_z w128 (of_z w128 x) ≡ x = omega (arith, signed_linear) in
    let ey : to_z w128 (of_z w128 y) ≡ y = omega (arith, signed_linear) in
    let ez : to_z w128 (of_z w128 z) ≡ z = omega (arith, signed_linear) in
    let s : to_z w128 (of_z w128 (x +ℤ y)) ≡ x +ℤ y = omega (arith, signed_linear) in
    let t : to_z w128 (of_z w128 (pos 2 *ℤ (x +ℤ y))) ≡ pos 2 *ℤ (x +ℤ y) = omega (arith, signed) in
    let r : to_z w128 (of_z w128 (pos 2 *ℤ (x +ℤ y) +ℤ z)) ≡ pos 2 *ℤ (x +ℤ y) +ℤ z = omega (arith, signed) in
    (λ i. to_z w128 (of_z w128 (to_z w128 (of_z w128 (pos 2 *ℤ to_z w128 (of_z w128 (ex i +ℤ ey i)))) +ℤ ez i)))
    ∙ (λ i. to_z w128 (of_z w128 (to_z w128 (of_z w128 (pos 2 *ℤ s i)) +ℤ z))) ∙ (λ i. to_z w128 (of_z w128 (t i +ℤ z))) ∙ r

moved_held : (z : ℤ) → IsWithin (2 ^ 56) z → to_z w64 (of_z w64 z) ≡ z
moved_held z h = omega (arith, signed_linear)

pub returns : goal.returns
returns c =
    let g = c.args.g in
    let k = pos c.args.k in
    let u = moved_held c.moved-u.result c.moved-u.ensures.size in
    let v = moved_held c.moved-v.result c.moved-v.ensures.size in
    let w = moved_held c.moved-w.result c.moved-w.ensures.size in
    let su : to_z w64 (of_z w64 g.step_u) ≡ g.step_u = omega (arith, signed_linear) in
    let sw : to_z w64 (of_z w64 g.step_w) ≡ g.step_w = omega (arith, signed_linear) in
    let gu : to_z w64 (of_z w64 g.u) ≡ g.u = omega (arith, signed_linear) in
    let gv : to_z w64 (of_z w64 g.v) ≡ g.v = omega (arith, signed_linear) in
    let gw : to_z w64 (of_z w64 g.w) ≡ g.w = omega (arith, signed_linear) in
    let sum : to_z w64 (of_z w64 (to_z w64 (of_z w64 g.step_u) +ℤ to_z w64 (of_z w64 g.step_w))) ≡ g.step_u +ℤ g.step_w =
    omega (arith, signed_linear) in
    let sv : to_z w64 (of_z w64 (pos 0 -ℤ to_z w64 (of_z w64 (to_z w64 (of_z w64 g.step_u) +ℤ to_z w64 (of_z w64 g.step_w))))) ≡
    neg_ℤ (g.step_u +ℤ g.step_w) = omega (arith, signed_linear) in
    let x = c.product.ensures.value ∙ (λ i. u i *ℤ sw i) ∙ (λ i. c.moved-u.ensures.value i *ℤ g.step_w)
    ∙ (λ i. (gu i +ℤ k *ℤ su i) *ℤ g.step_w) in
    let y = c.product-2.ensures.value ∙ (λ i. w i *ℤ su i) ∙ (λ i. c.moved-w.ensures.value i *ℤ g.step_u)
    ∙ (λ i. (gw i +ℤ k *ℤ sw i) *ℤ g.step_u) in
    let z = c.product-3.ensures.value ∙ (λ i. v i *ℤ sum i) ∙ (λ i. c.moved-v.ensures.value i *ℤ (g.step_u +ℤ g.step_w))
    ∙ (λ i. (gv i +ℤ k *ℤ sv i) *ℤ (g.step_u +ℤ g.step_w)) in
    sum_without_copies c.product.result c.product-2.result c.product-3.result c.product.ensures.size c.product-2.ensures.size
    c.product-3.ensures.size ∙ (λ i. pos 2 *ℤ (x i +ℤ y i) +ℤ z i)

pub overflow_add-result : goal.overflow_add-result
overflow_add-result c = omega (arith, signed_linear, c.product.ensures.size, c.product-2.ensures.size)

pub overflow_mul-result : goal.overflow_mul-result
overflow_mul-result c = omega (arith, signed, c.product.ensures.size, c.product-2.ensures.size)

pub overflow_add-result-2 : goal.overflow_add-result-2
overflow_add-result-2 c =
    omega (arith, signed, c.product.ensures.size, c.product-2.ensures.size, c.product-3.ensures.size)

pub overflow_add-g-2 : goal.overflow_add-g-2
overflow_add-g-2 c = omega (arith, signed_linear)

pub product-requires : goal.product-requires
product-requires c = (
  (omega (arith, signed_linear, c.moved-u.ensures.size), omega (arith, signed_linear, c.moved-u.ensures.size)),
  (omega (arith, signed_linear), omega (arith, signed_linear)),
)

pub product-requires-2 : goal.product-requires-2
product-requires-2 c = (
  (omega (arith, signed_linear, c.moved-w.ensures.size), omega (arith, signed_linear, c.moved-w.ensures.size)),
  (omega (arith, signed_linear), omega (arith, signed_linear)),
)

pub product-requires-3 : goal.product-requires-3
product-requires-3 c = (
  (omega (arith, signed_linear, c.moved-v.ensures.size), omega (arith, signed_linear, c.moved-v.ensures.size)),
  (omega (arith, signed_linear), omega (arith, signed_linear)),
)

pub moved-v-requires-clause-near : goal.moved-v-requires-clause-near
moved-v-requires-clause-near c = omega (arith, signed_linear)

pub moved-w-requires-clause-near : goal.moved-w-requires-clause-near
moved-w-requires-clause-near c = omega (arith, signed_linear)
