use Rattle.std.proofs.lemmas.Int.{to_z-of_z}
use Rattle.std.proofs.Common.{◌≡◌, ◌^◌, ℤ, pos, ◌+ℤ◌, ◌*ℤ◌, arith, to_z, of_z, FitsSigned}
use Rattle.fx_fixed.proofs.Linear.{signed, signed_linear}
use Rattle.fx_fixed.specs.Ranges.{IsWithin}
use Rattle.fx_winding.proofs.slope.gap_slope.Goals as goal
use mir.Syntax.{w128}

whole : (x y z : ℤ) → IsWithin (2 ^ 110) x → IsWithin (2 ^ 110) y → IsWithin (2 ^ 110) z
    → to_z w128 (of_z w128 (to_z w128 (of_z w128 (pos 2 *ℤ to_z w128
    (of_z w128 (to_z w128 (of_z w128 x) +ℤ to_z w128 (of_z w128 y))))) +ℤ to_z w128 (of_z w128 z))) ≡ pos 2 *ℤ (x +ℤ y) +ℤ z
whole x y z hx hy hz = omega (arith, signed)

doubled : (x y : ℤ) → IsWithin (2 ^ 110) x → IsWithin (2 ^ 110) y
    → FitsSigned w128 (pos 2 *ℤ to_z w128 (of_z w128 (to_z w128 (of_z w128 x) +ℤ to_z w128 (of_z w128 y))))
doubled x y hx hy = omega (arith, signed)

added : (x y z : ℤ) → IsWithin (2 ^ 110) x → IsWithin (2 ^ 110) y → IsWithin (2 ^ 110) z → FitsSigned w128 (to_z w128 (of_z w128
    (pos 2 *ℤ to_z w128 (of_z w128 (to_z w128 (of_z w128 x) +ℤ to_z w128 (of_z w128 y))))) +ℤ to_z w128 (of_z w128 z))
added x y z hx hy hz = omega (arith, signed)

pub wide_product-w-requires-clause-near_a : goal.wide_product-w-requires-clause-near_a
wide_product-w-requires-clause-near_a c = (omega (arith, signed_linear), omega (arith, signed_linear))

pub difference-requires-2-clause-near_a : goal.difference-requires-2-clause-near_a
difference-requires-2-clause-near_a c = omega (arith, signed_linear)

pub difference-requires-2-clause-near_b : goal.difference-requires-2-clause-near_b
difference-requires-2-clause-near_b c = omega (arith, signed_linear)

pub overflow_mul-result : goal.overflow_mul-result
overflow_mul-result c =
    doubled c.wide_product-w.result c.wide_product-u.result c.wide_product-w.ensures.size c.wide_product-u.ensures.size

pub overflow_add-result-2 : goal.overflow_add-result-2
overflow_add-result-2 c = added c.wide_product-w.result c.wide_product-u.result c.wide_product-v.result
    c.wide_product-w.ensures.size c.wide_product-u.ensures.size c.wide_product-v.ensures.size

pub returns-clause-value : goal.returns-clause-value
returns-clause-value c =
    let a = c.wide_product-w.ensures in let b = c.wide_product-u.ensures in let d = c.wide_product-v.ensures in
    let e = c.signed_area.ensures in let f = c.signed_area-2.ensures in let g = c.signed_area-3.ensures in
    let h = c.difference.ensures in let i = c.difference-2.ensures in let j = c.difference-3.ensures in
    grind (arith, whole, to_z-of_z)

pub returns-clause-size : goal.returns-clause-size
returns-clause-size c =
    let w = c.wide_product-w.ensures.size in let u = c.wide_product-u.ensures.size in let v = c.wide_product-v.ensures.size in
    (omega (arith, signed, w, u, v), omega (arith, signed, w, u, v))
