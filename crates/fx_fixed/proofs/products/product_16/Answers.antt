use Rattle.std.proofs.Common.{◌≡◌, ◌∙◌, ◌^◌, to_z, of_z, arith}
use Rattle.std.specs.Int.{w16, w32, w64}
use Rattle.std.proofs.lemmas.Int.{ints, to_z-of_z}
use Rattle.fx_fixed.proofs.Bounds.{product_size, size_fitting}
use Rattle.fx_fixed.proofs.products.product_16.Goals as goal

pub returns-clause-value : goal.returns-clause-value
returns-clause-value c =
    let p : to_z w64 (of_z w64 c.product.result) ≡ c.product.result = to_z-of_z w64 _ (record { sfits = c.product.type_inv }) in
    let a : to_z w32 (of_z w32 c.args.a) ≡ c.args.a = to_z-of_z w32 _ c.ranges.a in
    let b : to_z w32 (of_z w32 c.from.result) ≡ c.args.b = omega (arith, ints, c.from.ensures, c.ranges.b) in
    p ∙ rw (a, b) at c.product.ensures.value

pub returns-clause-size : goal.returns-clause-size
returns-clause-size c = rw (returns-clause-value c) (product_size (2 ^ 31) (2 ^ 15) c.args.a c.args.b
    (size_fitting w32 c.args.a c.ranges.a) (size_fitting w16 c.args.b c.ranges.b))
