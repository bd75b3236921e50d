use Rattle.std.proofs.Common.{◌≡◌, ◌∙◌, ◌*ℤ◌, ◌^◌, arith, w64, to_z, of_z}
use Rattle.std.proofs.lemmas.Int.{to_z-of_z}
use Rattle.fx_fixed.proofs.Linear.{signed_linear}
use Rattle.fx_fixed.proofs.Bounds.{product_within}
use Rattle.fx_rows.proofs.search.product.Goals as goal
use mir.Syntax.{w128}

pub returns-clause-value : goal.returns-clause-value
returns-clause-value c =
    let a : to_z w64 (of_z w64 c.args.a) ≡ c.args.a = omega (arith, signed_linear) in
    let b : to_z w64 (of_z w64 c.args.b) ≡ c.args.b = omega (arith, signed_linear) in
    to_z-of_z w128 _ (record { sfits = c.wide_product.type_inv }) ∙ c.wide_product.ensures ∙ (λ i. a i *ℤ b i)

pub returns-clause-size : goal.returns-clause-size
returns-clause-size c =
    rw (returns-clause-value c) (product_within (2 ^ 56) (2 ^ 56) c.args.a c.args.b c.requires.0 c.requires.1)
