use Rattle.std.proofs.Common.{◌≡◌, pos, ◌+ℤ◌, ◌*ℤ◌, arith, w32, to_z, of_z}
use Rattle.fx_fixed.proofs.Linear.{signed}
use Rattle.fx_winding.proofs.cover.centre_of.Goals as goal

pub returns : goal.returns
returns c =
    let n = c.args.col in
    let m = c.args.row in
    let x : to_z w32 (of_z w32 (to_z w32 (of_z w32 (pos 128 *ℤ to_z w32 (of_z w32 n))) +ℤ pos 64)) ≡ pos 128 *ℤ n +ℤ pos 64 =
    omega (arith, signed) in
    let y : to_z w32 (of_z w32 (to_z w32 (of_z w32 (pos 128 *ℤ to_z w32 (of_z w32 m))) +ℤ pos 64)) ≡ pos 128 *ℤ m +ℤ pos 64 =
    omega (arith, signed) in
    λ i. record { x = x i; y = y i }
