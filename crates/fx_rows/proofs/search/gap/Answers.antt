use Rattle.std.proofs.Common.{arith, ◌≡◌, ◌∙◌, ℤ, ◌^◌, neg_ℤ, ◌+ℤ◌, ◌*ℤ◌, ◌-ℤ◌, to_z, of_z, pos, w64}
use Rattle.fx_fixed.proofs.Linear.{signed, signed_linear}
use Rattle.fx_fixed.specs.Ranges.{IsWithin}
use Rattle.fx_rows.proofs.Touching.{gap_without_copies}
use Rattle.fx_rows.proofs.search.gap.Goals as goal
use mir.Syntax.{w128}

size_of : (x y : ℤ) → IsWithin (2 ^ 112) x → IsWithin (2 ^ 112) y
    → IsWithin (2 ^ 115)
    (to_z w128 (of_z w128 (to_z w128 (of_z w128 (pos 4 *ℤ to_z w128 (of_z w128 x))) -ℤ to_z w128 (of_z w128 y))))
size_of x y hx hy =
    let a : to_z w128 (of_z w128 (pos 4 *ℤ to_z w128 (of_z w128 x))) ≡ pos 4 *ℤ x = omega (arith, signed) in
    let b : to_z w128 (of_z w128 y) ≡ y = omega (arith, signed_linear) in
    let e : to_z w128 (of_z w128 (pos 4 *ℤ x -ℤ y)) ≡ pos 4 *ℤ x -ℤ y = omega (arith, signed) in
    let f = (λ i. to_z w128 (of_z w128 (a i -ℤ b i))) ∙ e in
    (omega (arith, signed, f), omega (arith, signed, f))

copy : (z : ℤ) → IsWithin (2 ^ 56) z → to_z w64 (of_z w64 z) ≡ z
copy z h = omega (arith, signed_linear)

pub returns-clause-value : goal.returns-clause-value
returns-clause-value c =
    let g = c.args.g in
    let u = copy c.moved-u.result c.moved-u.ensures.size in
    let v = copy c.moved-v.result c.moved-v.ensures.size in
    let w = copy c.moved-w.result c.moved-w.ensures.size in
    let su : to_z w64 (of_z w64 g.step_u) ≡ g.step_u = omega (arith, signed_linear) in
    let sw : to_z w64 (of_z w64 g.step_w) ≡ g.step_w = omega (arith, signed_linear) in
    let gu : to_z w64 (of_z w64 g.u) ≡ g.u = omega (arith, signed_linear) in
    let gv : to_z w64 (of_z w64 g.v) ≡ g.v = omega (arith, signed_linear) in
    let gw : to_z w64 (of_z w64 g.w) ≡ g.w = omega (arith, signed_linear) in
    let sv : to_z w64 (of_z w64 (pos 0 -ℤ to_z w64 (of_z w64 (to_z w64 (of_z w64 g.step_u) +ℤ to_z w64 (of_z w64 g.step_w))))) ≡
    neg_ℤ (g.step_u +ℤ g.step_w) = omega (arith, signed_linear) in
    gap_without_copies (g.u +ℤ pos c.args.k *ℤ g.step_u) (g.v +ℤ pos c.args.k *ℤ neg_ℤ (g.step_u +ℤ g.step_w))
    (g.w +ℤ pos c.args.k *ℤ g.step_w)
    c.product.result c.product-2.result c.product.ensures.size c.product-2.ensures.size
    (c.product.ensures.value ∙ (λ i. u i *ℤ w i)
    ∙ (λ i. (c.moved-u.ensures.value i) *ℤ (c.moved-w.ensures.value i))
    ∙ (λ i. (gu i +ℤ pos c.args.k *ℤ su i) *ℤ (gw i +ℤ pos c.args.k *ℤ sw i)))
    (c.product-2.ensures.value ∙ (λ i. v i *ℤ v i)
    ∙ (λ i. (c.moved-v.ensures.value i) *ℤ (c.moved-v.ensures.value i))
    ∙ (λ i. (gv i +ℤ pos c.args.k *ℤ sv i) *ℤ (gv i +ℤ pos c.args.k *ℤ sv i)))

pub returns-clause-size : goal.returns-clause-size
returns-clause-size c = size_of c.product.result c.product-2.result c.product.ensures.size c.product-2.ensures.size

pub overflow_mul-result : goal.overflow_mul-result
overflow_mul-result c = omega (arith, signed, c.product.ensures.size)

pub overflow_sub-result : goal.overflow_sub-result
overflow_sub-result c = omega (arith, signed, c.product.ensures.size, c.product-2.ensures.size)

pub moved-v-requires-clause-near : goal.moved-v-requires-clause-near
moved-v-requires-clause-near c = omega (arith, signed_linear)

pub moved-w-requires-clause-near : goal.moved-w-requires-clause-near
moved-w-requires-clause-near c = omega (arith, signed_linear)
