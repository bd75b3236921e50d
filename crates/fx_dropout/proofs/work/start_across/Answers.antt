use Rattle.std.proofs.Common.{◌≡◌, ◌∙◌, ℕ, ◌≤◌, ◌<◌, ℤ, pos, ◌+ℤ◌, ◌-ℤ◌, Some, w32, to_z, arith}
use Rattle.std.proofs.lemmas.Bool.Decides.{nat_tests}
use Rattle.std.proofs.lemmas.Int.{to_z_pos}
use Rattle.fx_fixed.proofs.Linear.{signed_linear}
use Rattle.fx_winding.specs.Area.{Place}
use Rattle.fx_winding.specs.Frames.{HasMargin}
use Rattle.fx_winding.specs.Winding.{centre}
use Rattle.fx_winding.specs.declared.frame.Frame.{Frame}
use Rattle.fx_dropout.specs.inner.Segments.{start_across}
use Rattle.fx_dropout.proofs.Stretching.{held}
use Rattle.fx_dropout.proofs.work.start_across.Goals as goal

column_held : (f : Frame) (n : ℕ) → HasMargin f → n ≤ f.width
    → held (held (held f.left -ℤ pos 1) +ℤ to_z w32 n) ≡ (f.left -ℤ pos 1) +ℤ pos n
column_held f n m l =
    let few = f.columns.few in
    let a = m.left in
    let b = m.right in
    let small : to_z w32 n ≡ pos n = to_z_pos w32 n (omega (arith, few, l)) in
    let first : held (held f.left -ℤ pos 1) ≡ f.left -ℤ pos 1 = omega (arith, signed_linear, a, b) in
    (λ t. held (first t +ℤ small t)) ∙ omega (arith, signed_linear, a, b, l)

row_held : (f : Frame) (n : ℕ) → HasMargin f → n < f.height → held (held f.bottom +ℤ to_z w32 n) ≡ f.bottom +ℤ pos n
row_held f n m l =
    let few = f.rows.few in
    let a = m.bottom in
    let b = m.top in
    let small : to_z w32 n ≡ pos n = to_z_pos w32 n (omega (arith, few, l)) in
    let first : held f.bottom ≡ f.bottom = omega (arith, signed_linear, a, b) in
    (λ t. held (first t +ℤ small t)) ∙ omega (arith, signed_linear, a, b, l)

some_start : (left : ℤ) (width : ℕ) (bottom : ℤ) (height column row : ℕ) (p : Place) → column ≤ width → row < height
    → p ≡ centre ((left -ℤ pos 1) +ℤ pos column) (bottom +ℤ pos row) → Some p ≡ start_across left width bottom height column row
some_start left width bottom height column row p k l e = grind (arith, nat_tests, k, l, e)

pub returns : goal.returns
returns c =
    let f = c.args.frame in
    let k = c.if-column-frame.false in
    let l = c.if-row-frame.false in
    some_start f.left f.width f.bottom f.height c.args.column c.args.row _ k l
    (c.centre_of.ensures ∙ (λ t. centre (column_held f c.args.column c.requires k t) (row_held f c.args.row c.requires l t)))
