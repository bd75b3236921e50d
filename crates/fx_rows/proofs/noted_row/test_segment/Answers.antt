use Rattle.std.proofs.Common.{◌≡◌, ◌↔◌, ◌+ℤ◌, ◌-ℤ◌, ◌∙◌, IsTrue, pos, subst, arith, w32, to_z, of_z}
use Rattle.fx_fixed.proofs.Linear.{signed_linear}
use Rattle.fx_winding.specs.Area.{Place}
use Rattle.fx_winding.specs.Meets.{IsMet}
use Rattle.fx_winding.specs.Winding.{place_of, span_of, centre}
use Rattle.fx_winding.proofs.Numbered.{left_column, right_column}
use Rattle.fx_rows.proofs.noted_row.test_segment.Goals as goal

pub returns-clause-value : goal.returns-clause-value
returns-clause-value c =
    let s = span_of c.args.piece.now in
    let f = c.args.line.now.frame in
    let k = c.args.k in
    let row : to_z w32 (of_z w32 c.args.line.now.row) ≡ c.args.line.now.row =
    omega (arith, signed_linear, c.args.line.now.row_near) in
    let right = right_column f k c.requires.to in
    let left = left_column f k c.requires.to in
    let q : place_of c.centre_of-2.result ≡ centre (f.left +ℤ pos k) c.args.line.now.row =
    c.centre_of-2.ensures ∙ (λ i. centre (right i) (row i)) in
    let p : place_of c.centre_of.result ≡ centre ((f.left -ℤ pos 1) +ℤ pos k) c.args.line.now.row =
    c.centre_of.ensures ∙ (λ i. centre (left i) (row i)) in
    subst (λ (r : Place). IsTrue c.meets.result ↔ IsMet (centre ((f.left -ℤ pos 1) +ℤ pos k) c.args.line.now.row) r s) q
    (subst (λ (r : Place). IsTrue c.meets.result ↔ IsMet r (place_of c.centre_of-2.result) s) p c.meets.ensures.value)
