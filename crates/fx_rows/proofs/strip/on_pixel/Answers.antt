use Rattle.fx_fixed.proofs.Linear.{signed_linear}
use Rattle.std.proofs.Common.{◌≡◌, ◌∙◌, subst, ◌↔◌, IsTrue, arith, w32, to_z, of_z}
use Rattle.fx_winding.specs.Area.{Place, place}
use Rattle.fx_winding.specs.Winding.{span_of, IsOn, centre}
use Rattle.fx_rows.proofs.strip.on_pixel.Goals as goal

pub returns-clause-value : goal.returns-clause-value
returns-clause-value c =
    let p = c.centre_of-p.result in
    let x : to_z w32 (of_z w32 p.x) ≡ p.x = omega (arith, signed_linear) in
    let y : to_z w32 (of_z w32 p.y) ≡ p.y = omega (arith, signed_linear) in
    let col : to_z w32 (of_z w32 c.args.col) ≡ c.args.col = omega (arith, signed_linear) in
    let row : to_z w32 (of_z w32 c.args.row) ≡ c.args.row = omega (arith, signed_linear) in
    subst (λ (q : Place). IsTrue c.on_piece.result ↔ IsOn q (span_of c.args.piece))
    ((λ i. place (x i) (y i)) ∙ c.centre_of-p.ensures ∙ (λ i. centre (col i) (row i))) c.on_piece.ensures.value
