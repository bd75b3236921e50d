use Rattle.std.proofs.Common.{◌≡◌, ◌↔◌, IsTrue, subst, arith, w32, to_z, of_z}
use Rattle.fx_fixed.proofs.Linear.{signed_linear}
use Rattle.fx_rows.specs.inner.Bulging.{IsLineTo, IsLineFrom}
use Rattle.fx_rows.proofs.Bulges.{or_else}
use Rattle.fx_rows.proofs.bulge.is_beyond.Goals as goal

pub returns : goal.returns
returns c =
    let a : to_z w32 (of_z w32 c.args.a) ≡ c.args.a = omega (arith, signed_linear, c.requires.0) in
    let b : to_z w32 (of_z w32 c.args.b) ≡ c.args.b = omega (arith, signed_linear, c.requires.1) in
    let k : to_z w32 (of_z w32 c.args.c) ≡ c.args.c = omega (arith, signed_linear, c.requires.2) in
    let to : IsTrue c.has_line_to.result ↔ IsLineTo c.args.b c.args.a c.args.c =
    subst (λ z. z) (λ i. IsTrue c.has_line_to.result ↔ IsLineTo (b i) (a i) (k i)) c.has_line_to.ensures in
    let from : IsTrue c.has_line_from.result ↔ IsLineFrom c.args.a c.args.c c.args.b =
    subst (λ z. z) (λ i. IsTrue c.has_line_from.result ↔ IsLineFrom (a i) (k i) (b i)) c.has_line_from.ensures in
    or_else c.has_line_to.result c.has_line_from.result c.if-has_line_to.false to from
