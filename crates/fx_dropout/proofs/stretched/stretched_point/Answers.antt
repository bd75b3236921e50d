use Rattle.std.proofs.Common.{◌≡◌, ℤ, pos, ◌*ℤ◌, ◌+ℤ◌, ◌-ℤ◌, arith}
use Rattle.fx_fixed.specs.Ranges.{IsWithin}
use Rattle.fx_fixed.proofs.Linear.{signed}
use Rattle.fx_winding.specs.Limits.{IsPixelNumber}
use Rattle.fx_winding.specs.Area.{place}
use Rattle.fx_dropout.specs.inner.Stretched.{stretched_x}
use Rattle.fx_dropout.proofs.Stretching.{held}
use Rattle.fx_dropout.proofs.stretched.stretched_point.Goals as goal

across : (x col : ℤ) → IsWithin 4194304 x → IsPixelNumber col
    → held (held (pos 128 *ℤ held (held x -ℤ held (held (pos 128 *ℤ held col) +ℤ pos 64))) +ℤ pos 64) ≡ stretched_x col x
across x col near column = omega (arith, signed, near, column)

pub invariant_of-result-clause-near_x : goal.invariant_of-result-clause-near_x
invariant_of-result-clause-near_x c =
    let near = c.requires.near in
    let column = c.requires.column in
    let e = across c.args.p.x c.args.col near column in
    (omega (arith, signed, near, column, e), omega (arith, signed, near, column, e))

pub returns : goal.returns
returns c =
    let near = c.args.p.near_y in
    let up : held c.args.p.y ≡ c.args.p.y = omega (arith, signed, near) in
    λ i. place (across c.args.p.x c.args.col c.requires.near c.requires.column i) (up i)
