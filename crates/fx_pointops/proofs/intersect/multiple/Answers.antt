use Rattle.std.proofs.Common.{◌≡◌, ◌∙◌, ◌^◌, to_z, of_z, arith, refl}
use Rattle.std.proofs.lemmas.Int.{ints, to_z-of_z, fits_signed_mul}
use Rattle.std.specs.Int.{w32, w128}
use Rattle.fx_fixed.proofs.Bounds.{product_size, size_fitting}
use Rattle.fx_pointops.proofs.Multiplying.{product_is}
use Rattle.fx_pointops.proofs.intersect.multiple.Goals as goal

distance : (c : goal.After-from) → c.from.result ≡ c.args.d
distance c = c.from.ensures ∙ to_z-of_z w32 c.args.d c.ranges.d

pub overflow_mul-result : goal.overflow_mul-result
overflow_mul-result c =
    let n : to_z w128 (of_z w128 c.args.n) ≡ c.args.n = to_z-of_z w128 _ c.ranges.n in
    let d : to_z w128 (of_z w128 c.from.result) ≡ c.args.d = omega (arith, ints, distance c, c.ranges.d) in
    rw (n, d) (fits_signed_mul w128 c.args.n c.args.d (2 ^ 63) (2 ^ 31) c.requires (size_fitting w32 c.args.d c.ranges.d)
    (omega arith))

pub returns-clause-value : goal.returns-clause-value
returns-clause-value c =
    product_is c.args.n c.args.d c.args.n c.from.result refl (distance c) c.requires (size_fitting w32 c.args.d c.ranges.d)

pub returns-clause-bound : goal.returns-clause-bound
returns-clause-bound c = rw (returns-clause-value c)
    (product_size (2 ^ 63) (2 ^ 31) c.args.n c.args.d c.requires (size_fitting w32 c.args.d c.ranges.d))
