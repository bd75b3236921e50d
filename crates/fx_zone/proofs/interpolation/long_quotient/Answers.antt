use Rattle.std.proofs.Common.{◌≡◌, ◌∙◌, ◌^◌, ℤ, ◌*ℤ◌, FitsSigned, to_z, of_z, arith}
use Rattle.std.specs.Int.{w32, w64, w128}
use Rattle.std.proofs.lemmas.Int.{ints, to_z-of_z}
use Rattle.fx_fixed.proofs.Bounds.{product_size}
use Rattle.fx_zone.proofs.interpolation.long_quotient.Goals as goal

pub returns-then-unsigned_abs-2-clause-value : goal.returns-then-unsigned_abs-2-clause-value
returns-then-unsigned_abs-2-clause-value c =
    let a : to_z w32 (of_z w32 (to_z w64 (of_z w64 c.args.part))) ≡ c.args.part = omega (arith, ints) in
    let b : to_z w32 (of_z w32 (to_z w64 (of_z w64 c.args.whole))) ≡ c.args.whole = omega (arith, ints) in
    let p : to_z w64 (of_z w64 c.product.result) ≡ c.product.result = to_z-of_z w64 _ (record { sfits = c.product.type_inv }) in
    let d : to_z w64 (of_z w64 c.args.apart) ≡ c.args.apart = to_z-of_z w64 _ c.ranges.apart in
    to_z-of_z w128 _ (record { sfits = c.from.type_inv }) ∙ c.from.ensures
    ∙ to_z-of_z w64 _ (record { sfits = c.near_quotient.type_inv })
    ∙ rw (p, c.product.ensures.value, a, b, d) at c.near_quotient.ensures.value

exact : (a b p : ℤ) → FitsSigned w64 a → FitsSigned w64 b → FitsSigned w128 p → p ≡ to_z w64 (of_z w64 a) *ℤ to_z w64 (of_z w64 b)
    → to_z w128 (of_z w128 p) ≡ a *ℤ b
exact a b p fa fb f e = to_z-of_z w128 p f ∙ rw (to_z-of_z w64 a fa, to_z-of_z w64 b fb) at e

pub near-requires-clause-size : goal.near-requires-clause-size
near-requires-clause-size c =
    let e = exact c.args.part c.args.whole c.wide_product.result c.ranges.part c.ranges.whole
    (record { sfits = c.wide_product.type_inv }) c.wide_product.ensures in
    rw e (omega (arith, product_size (2 ^ 32) (2 ^ 32) c.args.part c.args.whole c.requires.part c.requires.whole))

pub returns-else-unsigned_abs-clause-bound : goal.returns-else-unsigned_abs-clause-bound
returns-else-unsigned_abs-clause-bound c =
    let e = exact c.args.part c.args.whole c.wide_product.result c.ranges.part c.ranges.whole
    (record { sfits = c.wide_product.type_inv }) c.wide_product.ensures in
    let s = product_size (2 ^ 32) (2 ^ 32) c.args.part c.args.whole c.requires.part c.requires.whole in
    let n : to_z w128 (of_z w128 c.near.result) ≡ c.near.result = to_z-of_z w128 _ (record { sfits = c.near.type_inv }) in
    rw n (omega (arith, s, rw e at c.near.ensures.bound))
