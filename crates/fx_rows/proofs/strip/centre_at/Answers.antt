use Rattle.std.proofs.Common.{◌≡◌, pos, ◌+ℤ◌, ◌*ℤ◌, arith, w32, to_z, of_z}
use Rattle.fx_fixed.proofs.Linear.{signed}
use Rattle.fx_rows.proofs.strip.centre_at.Goals as goal

pub returns : goal.returns
returns c =
    let t = c.args.strip in
    let at = c.column.result in
    let near = c.requires in
    let side = t.base_near in
    let col : at ≡ t.base +ℤ pos c.args.k = c.column.ensures in
    let x : to_z w32 (of_z w32 (to_z w32 (of_z w32 (pos 128 *ℤ to_z w32 (of_z w32 at))) +ℤ pos 64))
    ≡ pos 128 *ℤ (t.base +ℤ pos c.args.k) +ℤ pos 64 = omega (arith, signed, col, near, side.from) in
    let y : to_z w32 (of_z w32 (to_z w32 (of_z w32 (pos 128 *ℤ to_z w32 (of_z w32 t.row))) +ℤ pos 64))
    ≡ pos 128 *ℤ t.row +ℤ pos 64 = omega (arith, signed, t.row_near) in
    λ i. record { x = x i; y = y i }
