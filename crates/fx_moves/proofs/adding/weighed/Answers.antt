use Rattle.std.proofs.Common.{◌≡◌, ◌∙◌, ◌^◌, to_z, of_z}
use Rattle.std.specs.Int.{w64, w128}
use Rattle.std.proofs.lemmas.Int.{to_z-of_z}
use Rattle.fx_fixed.proofs.Bounds.{product_size, size_fitting}
use Rattle.fx_moves.proofs.adding.weighed.Goals as goal

pub returns-clause-value : goal.returns-clause-value
returns-clause-value c =
    let p : to_z w128 (of_z w128 c.wide_product.result)
    ≡ c.wide_product.result = to_z-of_z w128 _ (record { sfits = c.wide_product.type_inv }) in
    let a : to_z w64 (of_z w64 c.args.moved) ≡ c.args.moved = to_z-of_z w64 _ c.ranges.moved in
    let b : to_z w64 (of_z w64 c.args.scalar) ≡ c.args.scalar = to_z-of_z w64 _ c.ranges.scalar in
    p ∙ rw (a, b) at c.wide_product.ensures

pub returns-clause-bound : goal.returns-clause-bound
returns-clause-bound c = rw (returns-clause-value c) (product_size (2 ^ 63) (2 ^ 42) c.args.moved c.args.scalar
    (size_fitting w64 c.args.moved c.ranges.moved) c.requires)
