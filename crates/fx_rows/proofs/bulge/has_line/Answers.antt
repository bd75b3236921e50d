use lib.Signed.{lt_z}
use Rattle.std.proofs.Common.{◌≡◌, ◌+ℤ◌, ◌<ℤ◌, ℤ, pos, IsTrue, arith, w32, to_z, of_z}
use Rattle.fx_fixed.proofs.Linear.{signed_linear}
use Rattle.fx_rows.proofs.Bulges.{line_found, line_lost}
use Rattle.fx_rows.proofs.bulge.has_line.Goals as goal

is_before : {x y n m : ℤ} → x ≡ n → y ≡ m → n <ℤ m → IsTrue (lt_z x y)
is_before {x} {y} {n} {m} e f h = grind (arith, signed_linear, e, f, h)

pub returns : goal.returns
returns c =
    let x : to_z w32 (of_z w32 c.args.x) ≡ c.args.x = omega (arith, signed_linear, c.requires.0) in
    let y : to_z w32 (of_z w32 (to_z w32 (of_z w32 c.args.y) +ℤ pos 1)) ≡ c.args.y +ℤ pos 1 =
    omega (arith, signed_linear, c.requires.1) in
    let a = c.first_from.ensures in
    let b = c.first_from-2.ensures in
    let n : to_z w32 (of_z w32 c.first_from.result) ≡ c.first_from.result = omega (arith, signed_linear, a.size) in
    let m : to_z w32 (of_z w32 c.first_from-2.result) ≡ c.first_from-2.result = omega (arith, signed_linear, b.size) in (
      λ t. line_found c.args.x c.args.y c.first_from.result c.first_from-2.result
          (rw x at (a.from c.first_from.result (omega (arith, signed_linear)))) (rw y at b.before)
          (omega (arith, signed_linear, t, n, m)),
      λ h. is_before n m (line_lost c.args.x c.args.y c.first_from.result c.first_from-2.result (rw x at a.before)
          (rw y at b.from) h),
    )
