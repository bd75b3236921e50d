use Rattle.std.proofs.Common.{◌≡◌, ◌<ℤ◌, arith, w32, to_z, of_z}
use Rattle.std.proofs.lemmas.Int.{clamps}
use Rattle.fx_fixed.proofs.Linear.{signed_linear}
use Rattle.fx_winding.proofs.Places.{clash, no}
use Rattle.fx_rows.proofs.Bulges.{line_same}
use Rattle.fx_rows.proofs.bulge.has_line_to.Goals as goal

pub returns : goal.returns
returns c =
    let x : to_z w32 (of_z w32 c.args.x) ≡ c.args.x = omega (arith, signed_linear, c.requires.0) in
    let y : to_z w32 (of_z w32 c.args.y) ≡ c.args.y = omega (arith, signed_linear, c.requires.1) in
    let z : to_z w32 (of_z w32 c.args.z) ≡ c.args.z = omega (arith, signed_linear, c.requires.2) in
    let first = line_same c.has_line.result x y c.has_line.ensures in
    let second = line_same c.has_line-2.result x z c.has_line-2.ensures in
    let least = c.min.ensures in
    let fits : to_z w32 (of_z w32 c.min.result) ≡ c.min.result = omega (arith, signed_linear, clamps, x, y, z, least.value) in
    let one : c.args.x <ℤ c.args.y = omega (arith, signed_linear, x, y, z, fits, least.self_bound, c.if-min-x.false) in
    let two : c.args.x <ℤ c.args.z = omega (arith, signed_linear, x, y, z, fits, least.other_bound, c.if-min-x.false) in (
      λ t. record { below = one; below_too = two; line = first.0 c.if-not-has_line.false; line_too = second.0 t },
      λ h. second.1 h.line_too,
    )

pub returns-then-min-x : goal.returns-then-min-x
returns-then-min-x c = grind (arith, signed_linear, clamps, c.min.ensures, c.if-min-x.true)

pub returns-then-not-has_line : goal.returns-then-not-has_line
returns-then-not-has_line c =
    let x : to_z w32 (of_z w32 c.args.x) ≡ c.args.x = omega (arith, signed_linear, c.requires.0) in
    let y : to_z w32 (of_z w32 c.args.y) ≡ c.args.y = omega (arith, signed_linear, c.requires.1) in
    no (λ h. clash c.has_line.result c.if-not-has_line.true ((line_same c.has_line.result x y c.has_line.ensures).1 h.line))
