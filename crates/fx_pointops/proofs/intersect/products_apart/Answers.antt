use Rattle.std.proofs.Common.{◌≡◌, ◌∙◌, ◌-ℤ◌, to_z, of_z, arith}
use Rattle.std.proofs.lemmas.Int.{ints, to_z-of_z}
use Rattle.std.specs.Int.{w32, w64, w128}
use Rattle.fx_pointops.proofs.Multiplying.{products_difference}
use Rattle.fx_pointops.proofs.intersect.products_apart.Goals as goal

first : (c : goal.After-from-2) → c.from.result ≡ c.product.result
first c = c.from.ensures ∙ to_z-of_z w64 _ (record { sfits = c.product.type_inv })

second : (c : goal.After-from-2) → c.from-2.result ≡ c.product-2.result
second c = c.from-2.ensures ∙ to_z-of_z w64 _ (record { sfits = c.product-2.type_inv })

pub overflow_sub-result : goal.overflow_sub-result
overflow_sub-result c = omega (arith, ints, first c, second c, c.product.ensures.size, c.product-2.ensures.size)

apart : (c : goal.After-from-2)
    → to_z w128 (of_z w128 (to_z w128 (of_z w128 c.from.result) -ℤ to_z w128 (of_z w128 c.from-2.result))) ≡
    c.product.result -ℤ c.product-2.result
apart c = products_difference c.product.result c.product-2.result c.from.result c.from-2.result (first c) (second c)
    c.product.ensures.size c.product-2.ensures.size

pub returns-clause-value : goal.returns-clause-value
returns-clause-value c =
    let p = rw (to_z-of_z w32 c.args.a c.ranges.a, to_z-of_z w32 c.args.b c.ranges.b) at c.product.ensures.value in
    let q = rw (to_z-of_z w32 c.args.c c.ranges.c, to_z-of_z w32 c.args.d c.ranges.d) at c.product-2.ensures.value in
    apart c ∙ (λ i. p i -ℤ q i)

pub returns-clause-bound : goal.returns-clause-bound
returns-clause-bound c = rw (apart c) (omega (arith, ints, c.product.ensures.size, c.product-2.ensures.size))
