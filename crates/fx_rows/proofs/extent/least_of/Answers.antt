use Rattle.std.proofs.Common.{◌≡◌, ◌+ℤ◌, ◌-ℤ◌, ◌≤ℤ◌, subst, arith, w32, w64, to_z, of_z}
use Rattle.fx_fixed.proofs.Linear.{signed_linear}
use Rattle.fx_rows.proofs.Extents.{IsOff, IsFrom, turns_low, turned_low}
use Rattle.fx_rows.proofs.extent.least_of.Goals as goal

pub returns : goal.returns
returns c =
    let x = c.args.a in
    let b = c.args.b in
    let z = c.args.c in
    let size = c.stays_off.ensures.size in
    let near = c.requires.near in
    let a : to_z w64 (of_z w64 c.difference.result) ≡ x -ℤ b = omega (arith, signed_linear, c.difference.ensures) in
    let e : to_z w64 (of_z w64 c.difference-2.result) ≡ z -ℤ b = omega (arith, signed_linear, c.difference-2.ensures) in
    let n = c.stays_off.result in
    let p : n ≤ℤ (x -ℤ b) = omega (arith, signed_linear, size, a) in
    let q : n ≤ℤ (z -ℤ b) = omega (arith, signed_linear, size, e) in
    let sum : to_z w32 (of_z w32 (to_z w32 (of_z w32 b) +ℤ to_z w32 (of_z w32 n))) ≡ b +ℤ n =
    omega (arith, signed_linear, size.0, p, q, near) in
    record {
      size = rw sum (
        omega (arith, signed_linear, size.0, p, q),
        omega (arith, signed_linear, size.0, p, q),
        omega (arith, signed_linear, size.0, p, q),
      );
      before = λ y l. turns_low x b z y c.stays_off.result c.requires.below
          (subst (λ q. q) (λ i. IsOff (a i) (e i) c.stays_off.result) c.stays_off.ensures.off)
          (rw sum at l);
      from = λ y l. turned_low x b z y c.stays_off.result size.0
          (subst (λ q. q) (λ i. IsFrom (a i) (e i) c.stays_off.result) c.stays_off.ensures.on)
          (rw sum at l);
    }
