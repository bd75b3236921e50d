use Rattle.std.proofs.Common.{◌≡◌, ◌∙◌, ◌+ℤ◌, to_z, of_z, arith}
use Rattle.std.specs.Int.{w16, w32, w64}
use Rattle.std.proofs.lemmas.Int.{ints, to_z-of_z}
use Rattle.fx_fixed.proofs.places.weighted_sum.Goals as goal

pub returns-clause-value : goal.returns-clause-value
returns-clause-value c =
    let x : to_z w32 (of_z w32 c.args.x) ≡ c.args.x = to_z-of_z w32 _ c.ranges.x in
    let u : to_z w16 (of_z w16 c.args.u) ≡ c.args.u = to_z-of_z w16 _ c.ranges.u in
    let y : to_z w32 (of_z w32 c.args.y) ≡ c.args.y = to_z-of_z w32 _ c.ranges.y in
    let v : to_z w16 (of_z w16 c.args.v) ≡ c.args.v = to_z-of_z w16 _ c.ranges.v in
    let p = rw (x, u) at c.product_16.ensures.value in
    let q = rw (y, v) at c.product_16-2.ensures.value in
    let sum : to_z w64 (of_z w64 (to_z w64 (of_z w64 c.product_16.result) +ℤ to_z w64 (of_z w64 c.product_16-2.result))) ≡
    c.product_16.result +ℤ c.product_16-2.result = omega (arith, ints, c.product_16.ensures.size, c.product_16-2.ensures.size) in
    sum ∙ (λ i. p i +ℤ q i)

pub returns-clause-size : goal.returns-clause-size
returns-clause-size c = omega (arith, ints, c.product_16.ensures.size, c.product_16-2.ensures.size)

pub overflow_add-result : goal.overflow_add-result
overflow_add-result c = omega (arith, ints, c.product_16.ensures.size, c.product_16-2.ensures.size)
